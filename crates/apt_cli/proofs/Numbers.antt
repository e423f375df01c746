-- Numbered elements of a list.
use Rattle.std.proofs.Common.{◌≡◌, ◌==◌, ◌<◌, ℕ, zero, suc, ◌+◌, List, [], ◌∷◌, length, map, filter, All, Contains, Bool, true, false, not, cond, Some, None, refl, arith, ap, eq-eqb}
use Rattle.std.proofs.lemmas.Bool.{lt-ltb}
use Rattle.std.proofs.lemmas.List.Elements.{All-map, All-contains}
use Rattle.std.specs.List.{position, position_or_len}

module _ {X : Type 0} (number : X → ℕ) where
  position_or_len-lt-length : (n : ℕ) (xs : List X) → Contains (map number xs) n → position_or_len (λ x. number x == n) xs < length xs
  position_or_len-lt-length n [] (k, within, is) = omega (arith, within)
  position_or_len-lt-length n (x ∷ xs) (zero, within, is) = rw (eq-eqb (number x) n is) (omega arith)
  position_or_len-lt-length n (x ∷ xs) (suc k, within, is) =
      at_test (number x == n) (position_or_len-lt-length n xs (k, omega (arith, within), is))
    where
      at_test : (b : Bool) → position_or_len (λ y. number y == n) xs < length xs → cond (not b) (1 + position_or_len (λ y. number y == n) xs) 0 < suc (length xs)
      at_test true h = omega arith
      at_test false h = omega (arith, h)

  -- a number of the list has a place
  pub position_from_Contains : (n : ℕ) (xs : List X) → Contains (map number xs) n → position (λ x. number x == n) xs ≡ Some (position_or_len (λ x. number x == n) xs)
  position_from_Contains n xs among =
      ap (λ b. cond b (Some (position_or_len (λ x. number x == n) xs)) None) (lt-ltb _ _ (position_or_len-lt-length n xs among))

  -- a number above all others is new
  pub fresh_above : (n : ℕ) (xs : List X) → All (λ x. number x < n) xs → ¬ Contains (map number xs) n
  fresh_above n xs below among =
      let n_below_itself : n < n = All-contains (λ k. k < n) (map number xs) n (All-map (λ k. k < n) number xs below) among in
      omega (arith, n_below_itself)

  -- the numbers of the elements that are kept for their numbers
  pub map-filter : (keeps : ℕ → Bool) (xs : List X) → map number (filter (λ x. keeps (number x)) xs) ≡ filter keeps (map number xs)
  map-filter keeps [] = refl
  map-filter keeps (x ∷ xs) = at_test (keeps (number x)) (map-filter keeps xs)
    where
      at_test : (b : Bool) → map number (filter (λ y. keeps (number y)) xs) ≡ filter keeps (map number xs) → map number (cond b (x ∷ filter (λ y. keeps (number y)) xs) (filter (λ y. keeps (number y)) xs)) ≡ cond b (number x ∷ filter keeps (map number xs)) (filter keeps (map number xs))
      at_test true rest = ap (λ ns. number x ∷ ns) rest
      at_test false rest = rest
