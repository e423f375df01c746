-- How places move past texts.
use Rattle.std.proofs.Common.{◌≡◌, eqb, ℕ, zero, suc, ◌+◌, ◌<◌, ◌≤◌, Bool, true, false, cond, List, [], ◌∷◌, ◌++◌, length, take, get_or, refl, sym, ap, ◌∙◌, arith, length-append}
use Rattle.std.proofs.lemmas.List.{get_or-map}
use Rattle.std.proofs.lemmas.Str.{length-encode}
use Rattle.std.specs.Char.{len_utf8}
use Rattle.std.specs.Prelude.{encode_utf8}
use Rattle.std.specs.Str.{encode_utf8_all}
use Rattle.java_tokens.specs.declared.shift.Shift.{Shift}
use Rattle.java_tokens.specs.CharsShown.{places_from, shift_at, offsets_of}
use Rattle.java_tokens.specs.Tokens.{ends_line, line_ends, returns}
use Rattle.java_tokens.specs.Table.{bytes_of}
use Rattle.java_tokens.proofs.Shifts.{places_from-length}

pub line_ends-append : (r : Bool) (xs ys : List ℕ) → line_ends r (xs ++ ys) ≡ line_ends r xs + line_ends (returns r xs) ys
line_ends-append r [] ys = omega arith
line_ends-append r (x ∷ xs) ys = omega (arith, line_ends-append (eqb x 13) xs ys)

pub returns-append : (r : Bool) (xs ys : List ℕ) → returns r (xs ++ ys) ≡ returns (returns r xs) ys
returns-append r [] ys = refl
returns-append r (x ∷ xs) ys = returns-append (eqb x 13) xs ys

one_or_none : (b : Bool) → cond b 1 0 ≤ 1
one_or_none true = omega arith
one_or_none false = omega arith

-- at most each character ends a line
pub line_ends_few : (r : Bool) (xs : List ℕ) → line_ends r xs ≤ length xs
line_ends_few r [] = omega arith
line_ends_few r (x ∷ xs) = omega (arith, line_ends_few (eqb x 13) xs, one_or_none (ends_line r x))

pub at_most_one : (n : ℕ) (b : Bool) → n ≡ cond b 1 0 → n ≤ 1
at_most_one n b is = omega (arith, is, one_or_none b)

-- a place in the text is how many bytes are before
place_from : (from : ℕ) (cs : List ℕ) (n : ℕ) → n < length cs → get_or (places_from from cs) n 0 ≡ from + bytes_of cs n
place_from from [] n h = absurd (omega (arith, h))
place_from from (c ∷ cs) zero h = omega arith
place_from from (c ∷ cs) (suc n) h =
    omega (arith, place_from (from + len_utf8 c) cs n (omega (arith, h)), length-append (encode_utf8 c) (encode_utf8_all (take n cs)), length-encode c)

place_at : (cs : List ℕ) (n : ℕ) → n < length cs → get_or (places_from 0 cs) n 0 ≡ bytes_of cs n
place_at cs n h = place_from 0 cs n h ∙ nothing (bytes_of cs n)
  where
    nothing : (m : ℕ) → 0 + m ≡ m
    nothing m = omega arith

-- and its offset is that and what the shifts add
pub offset_of_place : (cs : List ℕ) (shifts : List Shift) (n place by : ℕ) → n < length cs → place ≡ bytes_of cs n → by ≡ shift_at shifts place → place + by ≡ get_or (offsets_of cs shifts) n 0
offset_of_place cs shifts n place by h is added =
    ap (λ m. place + m) added ∙ ap (λ p. p + shift_at shifts p) (is ∙ sym (place_at cs n h)) ∙ sym (get_or-map (λ p. p + shift_at shifts p) (places_from 0 cs) n 0 0 (omega (arith, h, places_from-length 0 cs)))
