-- Numbers of integer literals up to a bound that is in no type.
use Rattle.std.proofs.Common.{◌≡◌, ℕ, ◌+◌, ◌*◌, ◌<◌, ◌≤◌, ◌==◌, inl, inr, Bool, true, false, List, [], ◌∷◌, length, drop, get_or, Option, None, Some, option_map, if◌then◌else◌, ◌≢◌, ne_eqb, refl, sym, ap, ◌∙◌, arith}
use Rattle.std.proofs.lemmas.Bool.{cases_lt}
use Rattle.std.proofs.lemmas.List.{drop_more, drop_all}
use Rattle.std.proofs.lemmas.Nat.{mul-le}
use Rattle.std.specs.Option.{option_and_then}
use Rattle.literal_values.specs.Numerals.{digit_in, digits_from}
use Rattle.literal_values.specs.NumeralParts.{bound, bounded}

pub bounded-small : (n : ℕ) → n ≤ bound → bounded n ≡ n
bounded-small n h = omega (arith, h)

pub bounded-large : (n : ℕ) → bound ≤ n → bounded n ≡ bound
bounded-large n h = omega (arith, h)

bounded-twice : (n : ℕ) → bounded (bounded n) ≡ bounded n
bounded-twice n = omega arith

-- a digit more makes no number smaller
grows : (radix n d : ℕ) → 1 ≤ radix → n ≤ n * radix + d
grows radix n d one = omega (arith, mul-le n 1 n radix (omega arith) one)

bounded-more : (radix n d : ℕ) → 1 ≤ radix → bounded (bounded n * radix + d) ≡ bounded (n * radix + d)
bounded-more radix n d one =
    elim (cases_lt n bound) [
      | inl small ↦ ap (λ k. bounded (k * radix + d)) (bounded-small n (omega (arith, small)))
      | inr large ↦
          ap (λ k. bounded (k * radix + d)) (bounded-large n large)
          ∙ bounded-large (bound * radix + d) (grows radix bound d one)
          ∙ sym (bounded-large (n * radix + d) (omega (arith, large, grows radix n d one)))
    ]

-- ---- digits

abbrev bounded_from : ℕ → ℕ → Bool → List ℕ → Option ℕ
bounded_from radix n wanted cs = option_map bounded (digits_from radix n wanted cs)

-- with one more digit, if it is one
abbrev pub after : ℕ → ℕ → List ℕ → Option ℕ → Option ℕ
after radix n cs digit = option_and_then (λ d. digits_from radix (n * radix + d) false cs) digit

pub digits_from-bounded : (radix n : ℕ) (wanted : Bool) (cs : List ℕ) → 1 ≤ radix → bounded_from radix (bounded n) wanted cs ≡ bounded_from radix n wanted cs
digits_from-bounded radix n true [] one = refl
digits_from-bounded radix n false [] one = ap Some (bounded-twice n)
digits_from-bounded radix n wanted (c ∷ cs) one =
    by_case (c == 95) (digits_from radix (bounded n) true cs) (digits_from radix n true cs) (after radix (bounded n) cs (digit_in radix c)) (after radix n cs (digit_in radix c))
    (digits_from-bounded radix n true cs one) (by_digit (λ d. digits_from-bounded radix (bounded n * radix + d) false cs one) (λ d. digits_from-bounded radix (n * radix + d) false cs one) (digit_in radix c))
  where
    by_digit : ((d : ℕ) → bounded_from radix (bounded (bounded n * radix + d)) false cs ≡ bounded_from radix (bounded n * radix + d) false cs)
        → ((d : ℕ) → bounded_from radix (bounded (n * radix + d)) false cs ≡ bounded_from radix (n * radix + d) false cs)
        → (digit : Option ℕ) → option_map bounded (after radix (bounded n) cs digit) ≡ option_map bounded (after radix n cs digit)
    by_digit bounded_one whole_one None = refl
    by_digit bounded_one whole_one (Some d) = sym (bounded_one d) ∙ ap (λ k. bounded_from radix k false cs) (bounded-more radix n d one) ∙ whole_one d

    by_case : (b : Bool) (p q r s : Option ℕ) → option_map bounded p ≡ option_map bounded q → option_map bounded r ≡ option_map bounded s
        → option_map bounded (if b then p else r) ≡ option_map bounded (if b then q else s)
    by_case true p q r s e f = e
    by_case false p q r s e f = f

-- ---- the loop over them: the number so far with what is left gives the whole

pub record IsRead (radix : ℕ) (whole : Option ℕ) (cs : List ℕ) (k n : ℕ) (wanted : Bool) : Type 0 where
  pub found : bounded_from radix n wanted (drop k cs) ≡ option_map bounded whole
  pub within : n ≤ bound

left-is : (cs : List ℕ) (k c : ℕ) → k < length cs → c ≡ get_or cs k c → drop k cs ≡ c ∷ drop (k + 1) cs
left-is cs k c h is = drop_more cs k c h ∙ ap (λ y. y ∷ drop (k + 1) cs) (sym is)

underscore-is : (radix n : ℕ) (wanted : Bool) (c : ℕ) (cs : List ℕ) → c ≡ 95 → digits_from radix n wanted (c ∷ cs) ≡ digits_from radix n true cs
underscore-is radix n wanted c cs e = rw e

digit-is : (radix n : ℕ) (wanted : Bool) (c : ℕ) (cs : List ℕ) (digit : Option ℕ) → (c == 95) ≡ false → digit ≡ digit_in radix c → digits_from radix n wanted (c ∷ cs) ≡ after radix n cs digit
digit-is radix n wanted c cs digit other is = ap (λ b. if b then digits_from radix n true cs else after radix n cs (digit_in radix c)) other ∙ ap (after radix n cs) (sym is)

pub read-underscore : (radix : ℕ) (whole : Option ℕ) (cs : List ℕ) (k n : ℕ) (wanted : Bool) (c : ℕ) → IsRead radix whole cs k n wanted → k < length cs → c ≡ get_or cs k c → c ≡ 95
    → IsRead radix whole cs (k + 1) n true
read-underscore radix whole cs k n wanted c so_far h is e = record {
  found =
      ap (option_map bounded) (sym (underscore-is radix n wanted c (drop (k + 1) cs) e) ∙ ap (digits_from radix n wanted) (sym (left-is cs k c h is))) ∙ so_far.found;
  within = so_far.within;
}

pub read-digit : (radix : ℕ) (whole : Option ℕ) (cs : List ℕ) (k n : ℕ) (wanted : Bool) (c d m : ℕ) → 1 ≤ radix → IsRead radix whole cs k n wanted → k < length cs → c ≡ get_or cs k c
    → c ≢ 95 → Some d ≡ digit_in radix c → m ≡ bounded (n * radix + d) → IsRead radix whole cs (k + 1) m false
read-digit radix whole cs k n wanted c d m one so_far h is other digit more = record {
  found =
      ap (λ m. bounded_from radix m false (drop (k + 1) cs)) more
      ∙ digits_from-bounded radix (n * radix + d) false (drop (k + 1) cs) one
      ∙ ap (option_map bounded) (sym (digit-is radix n wanted c (drop (k + 1) cs) (Some d) (ne_eqb c 95 other) digit) ∙ ap (digits_from radix n wanted) (sym (left-is cs k c h is)))
      ∙ so_far.found;
  within = omega (arith, more);
}

pub read-nothing : (radix : ℕ) (whole : Option ℕ) (cs : List ℕ) (k n : ℕ) (wanted : Bool) (c : ℕ) → IsRead radix whole cs k n wanted → k < length cs → c ≡ get_or cs k c → c ≢ 95
    → None ≡ digit_in radix c → None ≡ option_map bounded whole
read-nothing radix whole cs k n wanted c so_far h is other digit =
    ap (option_map bounded) (sym (digit-is radix n wanted c (drop (k + 1) cs) None (ne_eqb c 95 other) digit) ∙ ap (digits_from radix n wanted) (sym (left-is cs k c h is))) ∙ so_far.found

pub read-end : (radix : ℕ) (whole : Option ℕ) (cs : List ℕ) (k n : ℕ) (wanted : Bool) → IsRead radix whole cs k n wanted → length cs ≤ k → (if wanted then None else Some n) ≡ option_map bounded whole
read-end radix whole cs k n wanted so_far end =
    ended wanted ∙ ap (λ xs. bounded_from radix n wanted xs) (sym (drop_all k cs end)) ∙ so_far.found
  where
    ended : (wanted : Bool) → (if wanted then None else Some n) ≡ bounded_from radix n wanted []
    ended true = refl
    ended false = ap Some (sym (bounded-small n so_far.within))
