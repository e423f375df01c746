-- The first place that passes, as the length of what stands before it.
use Rattle.std.proofs.Common.{◌≡◌, ℕ, ◌<◌, Bool, true, false, not, cond, ltb, List, length, Some, None, refl, arith}
use Rattle.std.specs.List.{position, position_or_len}
use Rattle.std.proofs.lemmas.Bool.{ltb-true, ltb-false}
use Rattle.std.proofs.lemmas.List.Sums.{prefix_len-le-length}

module _ {X : Type 0} (p : X → Bool) (xs : List X) where
  pub place-none : None ≡ position p xs → position_or_len p xs ≡ length xs
  place-none = by (ltb (position_or_len p xs) (length xs)) refl
    where
      by : (b : Bool) → ltb (position_or_len p xs) (length xs) ≡ b → None ≡ cond b (Some (position_or_len p xs)) None → position_or_len p xs ≡ length xs
      by true e h = cc
      by false e h = omega (arith, ltb-false (position_or_len p xs) (length xs) e, prefix_len-le-length (λ x. not (p x)) xs)

  pub place-some : (i : ℕ) → Some i ≡ position p xs → (position_or_len p xs ≡ i) × (i < length xs)
  place-some i = by (ltb (position_or_len p xs) (length xs)) refl
    where
      by : (b : Bool) → ltb (position_or_len p xs) (length xs) ≡ b → Some i ≡ cond b (Some (position_or_len p xs)) None → (position_or_len p xs ≡ i) × (i < length xs)
      by true e h =
          let same : position_or_len p xs ≡ i = cc in
          (same, omega (arith, same, ltb-true (position_or_len p xs) (length xs) e))
      by false e h = let f : ⊥ = cc in absurd f
