-- The values of numerals by their numbers up to the bound, and the literals that are numerals.
use Rattle.std.proofs.Common.{◌≡◌, ◌≢◌, ℕ, ℤ, ◌+◌, ◌*◌, ◌<◌, ◌≤◌, Bool, true, false, List, [], ◌∷◌, length, get_or, Option, None, Some, option_map, if◌then◌else◌, refl, sym, ap, ◌∙◌, arith, inl, inr, le-ltb, ne_eqb, codes, ◌++◌}
use borrow.Author.Tests.{lt-leb}
use Rattle.std.proofs.lemmas.Bool.{cases_lt}
use Rattle.type_mirror.specs.declared.value.WholeKind.{WholeKind}
use Rattle.type_mirror.specs.declared.value.WholeKind.TheVariants as whole
use Rattle.literal_values.specs.Numerals.{Numeral, half, positive, negative, digits_number, numeral_in, numeral_of, whole_kind}
use Rattle.literal_values.specs.NumeralParts.{bound, bounded_numeral}
use Rattle.literal_values.specs.Literals.{whole_or, numeral_value, negated_numeral}
use Rattle.literal_values.proofs.BoundedNumbers.{bounded-small, bounded-large}

-- ---- values

half-within : (kind : WholeKind) → 2 * half kind ≤ bound
half-within whole.Int = omega arith
half-within whole.Long = omega arith

-- where no test passes there is no value
none-passes : (a b c : Bool) (x y : Option ℤ) → b ≡ false → c ≡ false → (if a then (if b then x else None) else (if c then y else None)) ≡ None
none-passes true b c x y e f = rw e refl
none-passes false b c x y e f = rw f refl

positive-large : (kind : WholeKind) (n : Numeral) → bound ≤ n.number → positive kind n ≡ None
unfolding positive
positive-large kind n large =
    none-passes _ _ _ _ _ (le-ltb n.number (half kind) (omega (arith, large, half-within kind))) (le-ltb n.number (2 * half kind) (omega (arith, large, half-within kind)))

negative-large : (kind : WholeKind) (n : Numeral) → bound ≤ n.number → negative kind n ≡ None
unfolding negative
negative-large kind n large =
    none-passes _ _ _ _ _ (lt-leb n.number (half kind) (omega (arith, large, half-within kind))) (le-ltb n.number (2 * half kind) (omega (arith, large, half-within kind)))

numeral-small : (n : Numeral) → n.number < bound → bounded_numeral n ≡ n
numeral-small n small = ap (λ k. record { radix = n.radix; number = k }) (bounded-small n.number (omega (arith, small)))

bound-within : (n : Numeral) → bound ≤ n.number → bound ≤ (bounded_numeral n).number
bound-within n large = omega (arith, bounded-large n.number large)

positive-bounded : (kind : WholeKind) (n : Numeral) → positive kind (bounded_numeral n) ≡ positive kind n
positive-bounded kind n =
    elim (cases_lt n.number bound) [
      | inl small ↦ ap (positive kind) (numeral-small n small)
      | inr large ↦ positive-large kind (bounded_numeral n) (bound-within n large) ∙ sym (positive-large kind n large)
    ]

negative-bounded : (kind : WholeKind) (n : Numeral) → negative kind (bounded_numeral n) ≡ negative kind n
negative-bounded kind n =
    elim (cases_lt n.number bound) [
      | inl small ↦ ap (negative kind) (numeral-small n small)
      | inr large ↦ negative-large kind (bounded_numeral n) (bound-within n large) ∙ sym (negative-large kind n large)
    ]

-- ---- literals

pub numeral_value-bounded : (text : List ℕ) (found : Option Numeral) → numeral_value text (option_map bounded_numeral found) ≡ numeral_value text found
numeral_value-bounded text None = refl
numeral_value-bounded text (Some n) = ap (whole_or text (whole_kind text)) (positive-bounded (whole_kind text) n)

pub negated_numeral-bounded : (text : List ℕ) (found : Option Numeral) → negated_numeral text (option_map bounded_numeral found) ≡ negated_numeral text found
negated_numeral-bounded text None = refl
negated_numeral-bounded text (Some n) = ap (whole_or (codes "- " ++ text) (whole_kind text)) (negative-bounded (whole_kind text) n)

pub ruleset values = (numeral_value-bounded, negated_numeral-bounded)

-- ---- the form of a literal

pub numeral_of-short : (text : List ℕ) → length text < 2 → numeral_of text ≡ numeral_in 10 text
unfolding numeral_of digits_number
numeral_of-short [] small = refl
numeral_of-short (c ∷ []) small = refl
numeral_of-short (c ∷ d ∷ cs) small = absurd (omega (arith, small))

pub numeral_of-other : (text : List ℕ) → get_or text 0 0 ≢ 48 → numeral_of text ≡ numeral_in 10 text
unfolding numeral_of digits_number
numeral_of-other [] other = refl
numeral_of-other (c ∷ []) other = refl
numeral_of-other (c ∷ d ∷ cs) other = rw (ne_eqb c 48 other) refl
