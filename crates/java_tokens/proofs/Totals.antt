-- Each file has a list of characters or a place.
use lib.Utf8.{scalars, scalar as scalar_of}
use Rattle.std.proofs.Common.{◌≡◌, ◌≢◌, ◌⊎◌, inl, inr, ◌&&◌, eqb, ℕ, zero, suc, ◌+◌, ◌-◌, ◌*◌, ◌%◌, ◌<◌, ◌≤◌, Bool, true, false, List, [], ◌∷◌, ◌++◌, length, take, drop, get_or, refl, sym, ap, ◌∙◌, subst, arith, append_assoc, length-append}
use Rattle.std.proofs.lemmas.Bool.{false≢true, cases_lt}
use Rattle.std.proofs.lemmas.Bool.Decides.{eqb_tells}
use Rattle.std.proofs.lemmas.List.{take-append-drop, take_at, length-take-le}
use Rattle.std.proofs.lemmas.Str.{is_utf8-from_IsUtf8, IsUtf8-from_is_utf8, IsUtf8-encode, length-encode, len_utf8_bounds}
use Rattle.std.specs.Prelude.{encode_utf8}
use Rattle.std.specs.Char.{IsScalar, len_utf8, digit_value}
use Rattle.std.specs.Str.{is_utf8, StartsWithNoChar, encode_utf8_all}
use Rattle.java_tokens.specs.Escapes.{IsHex, HasEscape, NoEscape}
use Rattle.java_tokens.specs.Characters.{BeginsEscape, joined, Placed, Spelled, HasChar, HasNoChar, slashes_after, AreChars, IsCharFault, IsDecided}
use Rattle.java_tokens.proofs.EscapesLemmas.{us_before, four_of, digits_of, escape_read, one_escape, taken_front}
use Rattle.java_tokens.proofs.CharactersLemmas.{has_even, none_even, no_escape, escape_char, no_pair, pair_char, raw_char, no_raw, has_long}

-- a text begins with a character, or with none
abbrev Either : ℕ → List ℕ → Type 0
Either s text = ((width : ℕ) × (code : ℕ) × HasChar s text width code) ⊎ HasNoChar s text

-- UTF-8 begins it, or nothing does
abbrev Raw : List ℕ → Type 0
Raw text = ((code : ℕ) × (rest : List ℕ) × IsScalar code × (text ≡ encode_utf8 code ++ rest)) ⊎ StartsWithNoChar text

first_true : (a b : Bool) → (a && b) ≡ true → a ≡ true
first_true true b e = refl
first_true false b e = e

-- a front that is UTF-8 begins with a character
from_front : (text : List ℕ) (w : ℕ) (cs : List ℕ) → scalars cs ≡ true → encode_utf8_all cs ≡ take w text → 0 < length (take w text) → Raw text
from_front text w [] scalar is some = absurd (omega (arith, some, ap length is))
from_front text w (c ∷ cs) scalar is some =
    inl (c, encode_utf8_all cs ++ drop w text, first_true (scalar_of c) (scalars cs) scalar, sym (take-append-drop w text) ∙ ap (λ x. x ++ drop w text) (sym is) ∙ append_assoc (encode_utf8 c) (encode_utf8_all cs) (drop w text))

tried : (text : List ℕ) (w : ℕ) → 0 < length (take w text) → is_utf8 (take w text) ≡ true → Raw text
tried text w some e = let u = IsUtf8-from_is_utf8 (take w text) e in from_front text w u.0 u.1.0 u.1.1 some

-- a text with a character has one that is spelled in this many bytes
wide_one : (text rest : List ℕ) (c : ℕ) → IsScalar c → text ≡ encode_utf8 c ++ rest → (w : ℕ) → len_utf8 c ≡ w → is_utf8 (take w text) ≡ true
wide_one text rest c scalar is w wide =
    let front : take w text ≡ encode_utf8 c = ap (take w) is ∙ take_at (encode_utf8 c) rest w (length-encode c ∙ wide) in
    ap is_utf8 front ∙ is_utf8-from_IsUtf8 (encode_utf8 c) (IsUtf8-encode c scalar)

none_of : (text : List ℕ) → is_utf8 (take 1 text) ≡ false → is_utf8 (take 2 text) ≡ false → is_utf8 (take 3 text) ≡ false → is_utf8 (take 4 text) ≡ false → StartsWithNoChar text
none_of text one two three four c rest scalar is = by_width (len_utf8 c) refl (len_utf8_bounds c).0 (len_utf8_bounds c).1
  where
    by_width : (w : ℕ) → len_utf8 c ≡ w → 1 ≤ len_utf8 c → len_utf8 c ≤ 4 → ⊥
    by_width zero e low high = omega (arith, e, low)
    by_width (suc zero) e low high = false≢true (sym one ∙ wide_one text rest c scalar is 1 e)
    by_width (suc (suc zero)) e low high = false≢true (sym two ∙ wide_one text rest c scalar is 2 e)
    by_width (suc (suc (suc zero))) e low high = false≢true (sym three ∙ wide_one text rest c scalar is 3 e)
    by_width (suc (suc (suc (suc zero)))) e low high = false≢true (sym four ∙ wide_one text rest c scalar is 4 e)
    by_width (suc (suc (suc (suc (suc n))))) e low high = omega (arith, e, high)

raw_either : (text : List ℕ) → Raw text
raw_either [] = inr (λ c rest scalar is. omega (arith, ap length is, length-append (encode_utf8 c) rest, length-encode c, len_utf8_bounds c))
raw_either (x ∷ xs) = by_four (is_utf8 (take 1 (x ∷ xs))) (is_utf8 (take 2 (x ∷ xs))) (is_utf8 (take 3 (x ∷ xs))) (is_utf8 (take 4 (x ∷ xs))) refl refl refl refl
  where
    by_four : (a b c d : Bool) → is_utf8 (take 1 (x ∷ xs)) ≡ a → is_utf8 (take 2 (x ∷ xs)) ≡ b → is_utf8 (take 3 (x ∷ xs)) ≡ c → is_utf8 (take 4 (x ∷ xs)) ≡ d → Raw (x ∷ xs)
    by_four true b c d p q r t = tried (x ∷ xs) 1 (omega arith) p
    by_four false true c d p q r t = tried (x ∷ xs) 2 (omega arith) q
    by_four false false true d p q r t = tried (x ∷ xs) 3 (omega arith) r
    by_four false false false true p q r t = tried (x ∷ xs) 4 (omega arith) t
    by_four false false false false p q r t = inr (none_of (x ∷ xs) p q r t)

-- digits have a value, or none
abbrev Hex : List ℕ → Type 0
Hex digits = ((value : ℕ) × IsHex digits value) ⊎ ((value : ℕ) → ¬ IsHex digits value)

hex_of : (a b c d : ℕ) → (digit_value a < 16) ⊎ (16 ≤ digit_value a) → (digit_value b < 16) ⊎ (16 ≤ digit_value b) → (digit_value c < 16) ⊎ (16 ≤ digit_value c) → (digit_value d < 16) ⊎ (16 ≤ digit_value d) → Hex (a ∷ b ∷ c ∷ d ∷ [])
hex_of a b c d (inl p) (inl q) (inl r) (inl t) = inl (((digit_value a * 16 + digit_value b) * 16 + digit_value c) * 16 + digit_value d, record { a = a; b = b; c = c; d = d; four = refl; a_digit = p; b_digit = q; c_digit = r; d_digit = t; sum = refl })
hex_of a b c d (inr p) q r t = inr (λ v h. omega (arith, p, h.a_digit, ap (λ xs. digit_value (get_or xs 0 0)) h.four))
hex_of a b c d (inl p) (inr q) r t = inr (λ v h. omega (arith, q, h.b_digit, ap (λ xs. digit_value (get_or xs 1 0)) h.four))
hex_of a b c d (inl p) (inl q) (inr r) t = inr (λ v h. omega (arith, r, h.c_digit, ap (λ xs. digit_value (get_or xs 2 0)) h.four))
hex_of a b c d (inl p) (inl q) (inl r) (inr t) = inr (λ v h. omega (arith, t, h.d_digit, ap (λ xs. digit_value (get_or xs 3 0)) h.four))

hex_either : (digits : List ℕ) → length digits ≡ 4 → Hex digits
hex_either digits long =
    subst Hex (sym (four_of digits long)) (hex_of (get_or digits 0 0) (get_or digits 1 0) (get_or digits 2 0) (get_or digits 3 0) (cases_lt _ _) (cases_lt _ _) (cases_lt _ _) (cases_lt _ _))

-- bytes begin with an escape, or with none
abbrev Escaped : List ℕ → Type 0
Escaped bytes = ((width : ℕ) × (value : ℕ) × HasEscape bytes width value) ⊎ NoEscape bytes

by_digits : (bytes : List ℕ) → 2 ≤ length bytes → get_or bytes 0 0 ≡ 92 → get_or bytes 1 0 ≡ 117 → (length (drop (2 + us_before (drop 2 bytes)) bytes) < 4) ⊎ (4 ≤ length (drop (2 + us_before (drop 2 bytes)) bytes)) → Escaped bytes
by_digits bytes two first second (inl short) = inr (λ width value has.
    let p = digits_of bytes width value has in
    omega (arith, short, ap length p.left, length-append p.digits p.rest, p.four))
by_digits bytes two first second (inr long) = by_hex (hex_either (take 4 (drop (2 + us_before (drop 2 bytes)) bytes)) (length-take-le 4 (drop (2 + us_before (drop 2 bytes)) bytes) long))
  where
    by_hex : Hex (take 4 (drop (2 + us_before (drop 2 bytes)) bytes)) → Escaped bytes
    by_hex (inl found) = inl (us_before (drop 2 bytes) + 6, found.0, escape_read bytes found.0 two first second long found.1)
    by_hex (inr none) = inr (λ width value has.
        let p = digits_of bytes width value has in
        none value (subst (λ ds. IsHex ds value) (taken_front p.digits p.rest p.four ∙ ap (take 4) (sym p.left)) p.hex))

escape_either : (bytes : List ℕ) → Escaped bytes
escape_either bytes = by_front (cases_lt (length bytes) 2) (eqb_tells (get_or bytes 0 0) 92) (eqb_tells (get_or bytes 1 0) 117)
  where
    by_front : (length bytes < 2) ⊎ (2 ≤ length bytes) → ((eqb (get_or bytes 0 0) 92 ≡ true) × (get_or bytes 0 0 ≡ 92)) ⊎ ((eqb (get_or bytes 0 0) 92 ≡ false) × (get_or bytes 0 0 ≢ 92)) → ((eqb (get_or bytes 1 0) 117 ≡ true) × (get_or bytes 1 0 ≡ 117)) ⊎ ((eqb (get_or bytes 1 0) 117 ≡ false) × (get_or bytes 1 0 ≢ 117)) → Escaped bytes
    by_front (inl short) p q = inr (λ width value has. omega (arith, short, (digits_of bytes width value has).long))
    by_front (inr two) (inr p) q = inr (λ width value has. p.1 (digits_of bytes width value has).first)
    by_front (inr two) (inl p) (inr q) = inr (λ width value has. q.1 (digits_of bytes width value has).second)
    by_front (inr two) (inl p) (inl q) = by_digits bytes two p.1 q.1 (cases_lt _ _)

-- where an escape begins
begun_either : (bytes : List ℕ) → BeginsEscape 0 bytes → Either 0 bytes
begun_either bytes begins = by_first (escape_either bytes)
  where
    by_second : (w v : ℕ) → HasEscape bytes w v → ¬ IsScalar v → Escaped (drop w bytes) → (v < 0xD800) ⊎ (0xD800 ≤ v) → (v < 0xDC00) ⊎ (0xDC00 ≤ v) → Either 0 bytes
    by_second w v first lone (inr none) low high = inr (no_pair bytes begins w v first lone (λ sw sv has h l. none sw sv has))
    by_second w v first lone (inl second) (inl under) high = inr (no_pair bytes begins w v first lone (λ sw sv has h l. omega (arith, under, h.0)))
    by_second w v first lone (inl second) (inr low) (inr over) = inr (no_pair bytes begins w v first lone (λ sw sv has h l. omega (arith, over, h.1)))
    by_second w v first lone (inl second) (inr low) (inl high) = by_low (cases_lt second.1 0xDC00) (cases_lt second.1 0xE000)
      where
        by_low : (second.1 < 0xDC00) ⊎ (0xDC00 ≤ second.1) → (second.1 < 0xE000) ⊎ (0xE000 ≤ second.1) → Either 0 bytes
        by_low (inl under) q = inr (no_pair bytes begins w v first lone (λ sw sv has h l. omega (arith, under, l.0, (one_escape (drop w bytes) sw sv second.0 second.1 has second.2).1)))
        by_low (inr p) (inr over) = inr (no_pair bytes begins w v first lone (λ sw sv has h l. omega (arith, over, l.1, (one_escape (drop w bytes) sw sv second.0 second.1 has second.2).1)))
        by_low (inr p) (inl q) = inl (w + second.0, joined v second.1, pair_char bytes begins w v second.0 second.1 first second.2 (low, high) (p, q))

    by_scalar : (w v : ℕ) → HasEscape bytes w v → (b : Bool) → scalar_of v ≡ b → Either 0 bytes
    by_scalar w v first true is = inl (w, v, escape_char bytes begins w v first is)
    by_scalar w v first false is = by_second w v first (λ scalar. false≢true (sym is ∙ scalar)) (escape_either (drop w bytes)) (cases_lt v 0xD800) (cases_lt v 0xDC00)

    by_first : Escaped bytes → Either 0 bytes
    by_first (inr none) = inr (no_escape bytes begins none)
    by_first (inl found) = by_scalar found.0 found.1 found.2 (scalar_of found.1) refl

char_either : (s : ℕ) (text : List ℕ) → Either s text
char_either s text = by_begin text (eqb_tells (s % 2) 0) (eqb_tells (get_or text 0 0) 92) (eqb_tells (get_or text 1 0) 117)
  where
    by_raw : (t : List ℕ) → ¬ BeginsEscape s t → Raw t → Either s t
    by_raw t not (inl found) = inl (len_utf8 found.0, found.0, raw_char s t found.1 found.0 not found.2 found.3)
    by_raw t not (inr none) = inr (no_raw s t not none)

    turned : (t : List ℕ) → s % 2 ≡ 0 → Either 0 t → Either s t
    turned t even (inl found) = inl (found.0, found.1, has_even 0 s t found.0 found.1 (sym even) found.2)
    turned t even (inr none) = inr (none_even 0 s t (sym even) none)

    by_begin : (t : List ℕ) → ((eqb (s % 2) 0 ≡ true) × (s % 2 ≡ 0)) ⊎ ((eqb (s % 2) 0 ≡ false) × (s % 2 ≢ 0)) → ((eqb (get_or t 0 0) 92 ≡ true) × (get_or t 0 0 ≡ 92)) ⊎ ((eqb (get_or t 0 0) 92 ≡ false) × (get_or t 0 0 ≢ 92)) → ((eqb (get_or t 1 0) 117 ≡ true) × (get_or t 1 0 ≡ 117)) ⊎ ((eqb (get_or t 1 0) 117 ≡ false) × (get_or t 1 0 ≢ 117)) → Either s t
    by_begin t (inr odd) p q = by_raw t (λ b. odd.1 b.even) (raw_either t)
    by_begin t (inl even) (inr p) q = by_raw t (λ b. p.1 (ap (λ xs. get_or xs 0 0) b.begins)) (raw_either t)
    by_begin t (inl even) (inl p) (inr q) = by_raw t (λ b. q.1 (ap (λ xs. get_or xs 1 0) b.begins)) (raw_either t)
    by_begin [] (inl even) (inl p) (inl q) = absurd (omega (arith, p.1))
    by_begin (a ∷ []) (inl even) (inl p) (inl q) = absurd (omega (arith, q.1))
    by_begin (a ∷ b ∷ xs) (inl even) (inl p) (inl q) = turned (a ∷ b ∷ xs) even.1 (begun_either (a ∷ b ∷ xs) (record { even = refl; after = xs; begins = ap (λ y. y ∷ b ∷ xs) p.1 ∙ ap (λ y. 92 ∷ y ∷ xs) q.1 }))

-- a text is read as far as characters go on
abbrev Read : ℕ → ℕ → List ℕ → Type 0
Read s o text = (cs : List Placed) × (rest : List ℕ) × (s' : ℕ) × Spelled s o text cs rest s' × HasNoChar s' rest × (length rest ≤ length text)

read_step : (s o : ℕ) (text : List ℕ) → Either s text → ((s' o' : ℕ) (after : List ℕ) → length after < length text → Read s' o' after) → Read s o text
read_step s o text (inr none) later = ([], text, s, (refl, refl), none, omega arith)
read_step s o text (inl (width, code, (spelling, after, split, wide, how))) later =
    let all : length text ≡ length spelling + length after = ap length split ∙ length-append spelling after in
    let some : 1 ≤ width = omega (arith, has_long s text width code (spelling, after, split, wide, how), (len_utf8_bounds code).0) in
    let more = later (slashes_after s spelling) (o + length spelling) after (omega (arith, all, some, wide)) in
    ((code, o) ∷ more.0, more.1, more.2, (refl, (spelling, after, split, how, more.3)), more.4, omega (arith, more.5, all))

read_all : (n s o : ℕ) (text : List ℕ) → length text < n → Read s o text
read_all zero s o text h = absurd (omega (arith, h))
read_all (suc n) s o text h = read_step s o text (char_either s text) (λ s' o' after less. read_all n s' o' after (omega (arith, less, h)))

finished : (file : List ℕ) → Read 0 0 file → ((all : List Placed) × AreChars file all) ⊎ ((place : ℕ) × IsCharFault file place)
finished file (cs, [], s, spelled, none, within) = inl (cs, (s, spelled))
finished file (cs, x ∷ xs, s, spelled, none, within) = inr (length file - length (x ∷ xs), (cs, x ∷ xs, s, spelled, omega (arith, within), omega arith, none))

-- a list or a place
pub list_or_place : (file : List ℕ) → IsDecided file
list_or_place file = finished file (read_all (suc (length file)) 0 0 file (omega arith))
