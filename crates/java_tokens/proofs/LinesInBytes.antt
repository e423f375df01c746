-- Line ends are the same in characters and in bytes.
use Rattle.std.proofs.Common.{◌≡◌, ◌≢◌, ◌⊎◌, inl, inr, ◌&&◌, ◌||◌, not, eqb, ℕ, suc, ◌+◌, ◌<◌, ◌≤◌, Bool, true, false, cond, List, [], ◌∷◌, ◌++◌, length, get_or, refl, sym, ap, ◌∙◌, arith, append-nil}
use Rattle.std.proofs.lemmas.Bool.{cases_lt}
use Rattle.std.proofs.lemmas.Bool.Decides.{eqb_tells}
use Rattle.std.proofs.lemmas.Str.{encode_ascii, encodes-chars, inside_one, length-encode, len_utf8_bounds}
use Rattle.std.specs.Prelude.{encode_utf8}
use Rattle.std.specs.Str.{chars, IsUtf8, encode_utf8_all}
use Rattle.java_tokens.specs.Tokens.{line_ends, returns}

other : (b n : ℕ) → b ≢ n → eqb b n ≡ false
other b n differ = by_test (eqb_tells b n)
  where
    by_test : ((eqb b n ≡ true) × (b ≡ n)) ⊎ ((eqb b n ≡ false) × (b ≢ n)) → eqb b n ≡ false
    by_test (inl p) = absurd (differ p.1)
    by_test (inr p) = p.0

-- no line ends at a number beyond ASCII
quiet_lines : (r : Bool) (b : ℕ) (bs : List ℕ) → 128 ≤ b → line_ends r (b ∷ bs) ≡ line_ends false bs
quiet_lines r b bs high =
    ap (λ x. cond (x || (eqb b 10 && not r)) 1 0 + line_ends x bs) (other b 13 (λ e. omega (arith, e, high)))
    ∙ ap (λ y. cond (false || (y && not r)) 1 0 + line_ends false bs) (other b 10 (λ e. omega (arith, e, high))) ∙ nothing (line_ends false bs)
  where
    nothing : (m : ℕ) → 0 + m ≡ m
    nothing m = omega arith

quiet_return : (r : Bool) (b : ℕ) (bs : List ℕ) → 128 ≤ b → returns r (b ∷ bs) ≡ returns false bs
quiet_return r b bs high = ap (λ x. returns x bs) (other b 13 (λ e. omega (arith, e, high)))

abbrev AreHigh : List ℕ → Type 0
AreHigh bs = (k : ℕ) → k < length bs → 128 ≤ get_or bs k 0

high_lines : (r : Bool) (bs xs : List ℕ) → AreHigh bs → 0 < length bs → line_ends r (bs ++ xs) ≡ line_ends false xs
high_lines r [] xs high some = absurd (omega (arith, some))
high_lines r (b ∷ []) xs high some = quiet_lines r b xs (high 0 (omega arith))
high_lines r (b ∷ d ∷ bs) xs high some =
    quiet_lines r b (d ∷ bs ++ xs) (high 0 (omega arith)) ∙ high_lines false (d ∷ bs) xs (λ k h. high (suc k) (omega (arith, h))) (omega arith)

high_return : (r : Bool) (bs xs : List ℕ) → AreHigh bs → 0 < length bs → returns r (bs ++ xs) ≡ returns false xs
high_return r [] xs high some = absurd (omega (arith, some))
high_return r (b ∷ []) xs high some = quiet_return r b xs (high 0 (omega arith))
high_return r (b ∷ d ∷ bs) xs high some =
    quiet_return r b (d ∷ bs ++ xs) (high 0 (omega arith)) ∙ high_return false (d ∷ bs) xs (λ k h. high (suc k) (omega (arith, h))) (omega arith)

-- the bytes of a character beyond ASCII are none of ASCII
high_bytes : (c : ℕ) → 128 ≤ c → AreHigh (encode_utf8 c)
high_bytes c high = λ k h. by_order k h (cases_lt (get_or (encode_utf8 c) k 0) 128)
  where
    by_order : (k : ℕ) → k < length (encode_utf8 c) → (get_or (encode_utf8 c) k 0 < 128) ⊎ (128 ≤ get_or (encode_utf8 c) k 0) → 128 ≤ get_or (encode_utf8 c) k 0
    by_order k h (inr more) = more
    by_order k h (inl less) = absurd (omega (arith, inside_one c [] (encode_utf8 c) k (sym (append-nil (encode_utf8 c))) h less, less, high))

some_bytes : (c : ℕ) → 0 < length (encode_utf8 c)
some_bytes c = omega (arith, length-encode c, (len_utf8_bounds c).0)

lines_encoded : (r : Bool) (cs : List ℕ) → line_ends r (encode_utf8_all cs) ≡ line_ends r cs
lines_encoded r [] = refl
lines_encoded r (c ∷ cs) = by_order (cases_lt c 128) (λ s. lines_encoded s cs)
  where
    by_order : (c < 128) ⊎ (128 ≤ c) → ((s : Bool) → line_ends s (encode_utf8_all cs) ≡ line_ends s cs) → line_ends r (encode_utf8 c ++ encode_utf8_all cs) ≡ line_ends r (c ∷ cs)
    by_order (inl low) later =
        ap (λ bs. line_ends r (bs ++ encode_utf8_all cs)) (encode_ascii c low) ∙ ap (λ n. cond ((eqb c 13) || ((eqb c 10) && not r)) 1 0 + n) (later (eqb c 13))
    by_order (inr high) later =
        high_lines r (encode_utf8 c) (encode_utf8_all cs) (high_bytes c high) (some_bytes c) ∙ later false ∙ sym (quiet_lines r c cs high)

return_encoded : (r : Bool) (cs : List ℕ) → returns r (encode_utf8_all cs) ≡ returns r cs
return_encoded r [] = refl
return_encoded r (c ∷ cs) = by_order (cases_lt c 128) (λ s. return_encoded s cs)
  where
    by_order : (c < 128) ⊎ (128 ≤ c) → ((s : Bool) → returns s (encode_utf8_all cs) ≡ returns s cs) → returns r (encode_utf8 c ++ encode_utf8_all cs) ≡ returns r (c ∷ cs)
    by_order (inl low) later = ap (λ bs. returns r (bs ++ encode_utf8_all cs)) (encode_ascii c low) ∙ later (eqb c 13)
    by_order (inr high) later =
        high_return r (encode_utf8 c) (encode_utf8_all cs) (high_bytes c high) (some_bytes c) ∙ later false ∙ sym (quiet_return r c cs high)

-- how many lines end in a text, and whether it ends in a CR
pub lines_in_bytes : (r : Bool) (bs : List ℕ) → IsUtf8 bs → line_ends r bs ≡ line_ends r (chars bs)
lines_in_bytes r bs utf8 = ap (line_ends r) (sym (encodes-chars bs utf8)) ∙ lines_encoded r (chars bs)

pub return_in_bytes : (r : Bool) (bs : List ℕ) → IsUtf8 bs → returns r bs ≡ returns r (chars bs)
return_in_bytes r bs utf8 = ap (returns r) (sym (encodes-chars bs utf8)) ∙ return_encoded r (chars bs)

-- where nothing is left
pub lines_passed : (line before : ℕ) (s r : Bool) (rest text : List ℕ) → IsUtf8 text → length rest < 1 → line + line_ends s rest ≡ before + line_ends r text → line ≡ before + line_ends r (chars text)
lines_passed line before s r [] text utf8 end is = omega (arith, is, lines_in_bytes r text utf8)
lines_passed line before s r (x ∷ rest) text utf8 end is = absurd (omega (arith, end))

pub return_passed : (s r : Bool) (rest text : List ℕ) → IsUtf8 text → length rest < 1 → returns s rest ≡ returns r text → s ≡ returns r (chars text)
return_passed s r [] text utf8 end is = is ∙ return_in_bytes r text utf8
return_passed s r (x ∷ rest) text utf8 end is = absurd (omega (arith, end))
