-- What a character at the front of a text is, and where there is none.
use lib.Utf8.{scalar_cases, low_scalar, scalars, scalar as scalar_of}
use Rattle.std.proofs.Common.{◌≡◌, ◌≢◌, ◌⊎◌, inl, inr, Option, None, Some, MatchOption, Bool, true, false, ◌&&◌, eqb, min, suc, ℕ, ◌+◌, ◌%◌, ◌<◌, ◌≤◌, List, [], ◌∷◌, replicate, ◌++◌, length, take, drop, slice_index, get_or, cond, refl, sym, ap, ◌∙◌, subst, arith, append_assoc, length-append}
use Rattle.std.proofs.lemmas.Bool.{false≢true, false_from_ne_true}
use Rattle.std.proofs.lemmas.List.{drop_at, take_at, get_or_append_left, get_or-append-add, length-take, length-replicate, take-append-drop}
use Rattle.std.proofs.Math.Seq.{take-take}
use Rattle.std.proofs.lemmas.Str.{length-encode, len_utf8_bounds, IsUtf8-encode, cons_from_encodes, encode_same, encode_ascii}
use Rattle.std.proofs.lemmas.Slice.Eq.{bytes_eq-Decides}
use Rattle.std.specs.Prelude.{encode_utf8}
use Rattle.std.specs.Char.{IsScalar, len_utf8}
use Rattle.std.specs.Str.{StartsWithNoChar, IsUtf8}
use Rattle.java_tokens.specs.Escapes.{IsEscape, HasEscape, NoEscape}
use Rattle.java_tokens.specs.Characters.{BeginsEscape, IsPlain, IsHigh, IsLow, joined, BeginsWith, Spells, raw, escape, pair, HasChar, HasNoChar, slashes_after}
use Rattle.java_tokens.proofs.EscapesLemmas.{one_escape}

-- whether an escape begins is a matter of the parity
pub begins_even : (s t : ℕ) (rest : List ℕ) → s % 2 ≡ t % 2 → BeginsEscape s rest → BeginsEscape t rest
begins_even s t rest same b = record { even = sym same ∙ b.even; after = b.after; begins = b.begins }

pub has_even : (s t : ℕ) (text : List ℕ) (width code : ℕ) → s % 2 ≡ t % 2 → HasChar s text width code → HasChar t text width code
has_even s t text width code same (sp, after, split, wide, how) = (sp, after, split, wide, turned how)
  where
    turned : Spells s sp after code → Spells t sp after code
    turned (raw scalar is not) = raw scalar is (λ b. not (begins_even t s (sp ++ after) (sym same) b))
    turned (escape b e scalar) = escape (begins_even s t (sp ++ after) same b) e scalar
    turned (pair f g h l b cut e e' high low is) = pair f g h l (begins_even s t (sp ++ after) same b) cut e e' high low is

pub none_even : (s t : ℕ) (text : List ℕ) → s % 2 ≡ t % 2 → HasNoChar s text → HasNoChar t text
none_even s t text same none width code has = none width code (has_even t s text width code (sym same) has)

module _ (bytes : List ℕ) (begins : BeginsEscape 0 bytes) where
  here : (sp after : List ℕ) → bytes ≡ sp ++ after → BeginsEscape 0 (sp ++ after)
  here sp after split = subst (BeginsEscape 0) split begins

  -- no escape, and so no character
  pub no_escape : NoEscape bytes → HasNoChar 0 bytes
  no_escape none width code (sp, after, split, wide, how) = refuted how
    where
      refuted : Spells 0 sp after code → ⊥
      refuted (raw scalar is not) = not (here sp after split)
      refuted (escape b e scalar) = none (length sp) code (after, sp, split, refl, e)
      refuted (pair f g h l b cut e e' high low is) = none (length f) h (g ++ after, f, split ∙ ap (λ x. x ++ after) cut ∙ append_assoc f g after, refl, e)

  -- an escape of a character
  pub escape_char : (width code : ℕ) → HasEscape bytes width code → IsScalar code → HasChar 0 bytes width code
  escape_char width code (after, sp, split, wide, e) scalar = (sp, after, split, wide, escape (here sp after split) e scalar)

  -- an escape of a surrogate gives a character only with the one after it
  pub no_pair : (w v : ℕ) → HasEscape bytes w v → ¬ IsScalar v → ((sw sv : ℕ) → HasEscape (drop w bytes) sw sv → IsHigh v → IsLow sv → ⊥) → HasNoChar 0 bytes
  no_pair w v first lone none width code (sp, after, split, wide, how) = refuted how
    where
      refuted : Spells 0 sp after code → ⊥
      refuted (raw scalar is not) = not (here sp after split)
      refuted (escape b e scalar) = lone (subst IsScalar (one_escape bytes (length sp) code w v (after, sp, split, refl, e) first).1 scalar)
      refuted (pair f g h l b cut e e' high low is) =
          let whole : bytes ≡ f ++ (g ++ after) = split ∙ ap (λ x. x ++ after) cut ∙ append_assoc f g after in
          let same = one_escape bytes (length f) h w v (g ++ after, f, whole, refl, e) first in
          let left : drop w bytes ≡ g ++ after = ap (λ n. drop n bytes) (sym same.0) ∙ ap (drop (length f)) whole ∙ drop_at f (g ++ after) (length f) refl in
          none (length g) l (after, g, left, refl, e') (subst IsHigh same.1 high) low

  -- two escapes of surrogates
  pub pair_char : (w v w' v' : ℕ) → HasEscape bytes w v → HasEscape (drop w bytes) w' v' → IsHigh v → IsLow v' → HasChar 0 bytes (w + w') (joined v v')
  pair_char w v w' v' (rest, f, split, wide, e) (after, g, left, wide', e') high low =
      let dropped : drop w bytes ≡ rest = ap (λ n. drop n bytes) wide ∙ ap (drop (length f)) split ∙ drop_at f rest (length f) refl in
      let whole : bytes ≡ (f ++ g) ++ after = split ∙ ap (λ r. f ++ r) (sym dropped ∙ left) ∙ sym (append_assoc f g after) in
      (f ++ g, after, whole, omega (arith, wide, wide', length-append f g), pair f g v v' (here (f ++ g) after whole) refl e e' high low refl)

-- UTF-8 where no escape begins
pub raw_char : (s : ℕ) (bytes rest : List ℕ) (code : ℕ) → ¬ BeginsEscape s bytes → IsScalar code → bytes ≡ encode_utf8 code ++ rest → HasChar s bytes (len_utf8 code) code
raw_char s bytes rest code not scalar split = (encode_utf8 code, rest, split, sym (length-encode code), raw scalar refl (λ b. not (subst (BeginsEscape s) (sym split) b)))

pub no_raw : (s : ℕ) (bytes : List ℕ) → ¬ BeginsEscape s bytes → StartsWithNoChar bytes → HasNoChar s bytes
no_raw s bytes not none width code (sp, after, split, wide, how) = refuted how
  where
    refuted : Spells s sp after code → ⊥
    refuted (raw scalar is _) = none code after scalar (split ∙ ap (λ x. x ++ after) is)
    refuted (escape b e scalar) = not (subst (BeginsEscape s) (sym split) b)
    refuted (pair f g h l b cut e e' high low is) = not (subst (BeginsEscape s) (sym split) b)

-- a surrogate is no character
pub surrogate : (v : ℕ) → 0xD800 ≤ v → v < 0xE000 → ¬ IsScalar v
surrogate v low high scalar = refuted (scalar_cases v scalar)
  where
    refuted : (v < 55296) ⊎ ((57344 ≤ v) × (v < 1114112)) → ⊥
    refuted (inl below) = omega (arith, low, below)
    refuted (inr above) = omega (arith, high, above.0)

pub turned_even : {R : Type 0} (width code : R → ℕ) (s : ℕ) (bytes : List ℕ) → s % 2 ≡ 0 → (o : Option R) → MatchOption o (HasNoChar 0 bytes) (λ r. HasChar 0 bytes (width r) (code r)) → MatchOption o (HasNoChar s bytes) (λ r. HasChar s bytes (width r) (code r))
turned_even width code s bytes even None none = none_even 0 s bytes (sym even) none
turned_even width code s bytes even (Some r) has = has_even 0 s bytes (width r) (code r) (sym even) has

-- the first character of the longest front of a text, of four bytes at most
pub first_found : (bytes text rest after : List ℕ) (k : ℕ) (o : Option ℕ) → k ≡ min (length bytes) 4 → take k bytes ≡ text ++ rest → IsUtf8 text → ((m : ℕ) → length text < m → m ≤ length (take k bytes) → ¬ IsUtf8 (take m (take k bytes)))
    → MatchOption o (length text ≡ 0) (λ c. text ≡ encode_utf8 c ++ after) → MatchOption o (StartsWithNoChar bytes) (λ c. IsScalar c × ((r : List ℕ) × (bytes ≡ encode_utf8 c ++ r)))
first_found bytes text rest after k None is split utf8 longest none = λ c r scalar e.
    let w = length (encode_utf8 c) in
    let wide : w ≡ len_utf8 c = length-encode c in
    let bounds = len_utf8_bounds c in
    let all : length bytes ≡ w + length r = ap length e ∙ length-append (encode_utf8 c) r in
    let within : w ≤ k = omega (arith, is, wide, bounds.1, all) in
    let fits : w ≤ length (take k bytes) = omega (arith, within, length-take k bytes, is) in
    let front : take w (take k bytes) ≡ encode_utf8 c = take-take w k bytes within ∙ ap (take w) e ∙ take_at (encode_utf8 c) r w refl in
    longest w (omega (arith, none, wide, bounds.0)) fits (subst IsUtf8 (sym front) (IsUtf8-encode c scalar))
first_found bytes text rest after k (Some c) is split utf8 longest found =
    let encoded = cons_from_encodes utf8.0 after c (utf8.1.1 ∙ found) in
    let scalar : IsScalar c = first_scalar c encoded.0 (subst (λ cs. scalars cs ≡ true) encoded.1 utf8.1.0) in
    (scalar, (after ++ (rest ++ drop k bytes), sym (take-append-drop k bytes) ∙ ap (λ x. x ++ drop k bytes) (split ∙ ap (λ t. t ++ rest) found) ∙ append_assoc (encode_utf8 c ++ after) rest (drop k bytes) ∙ append_assoc (encode_utf8 c) after (rest ++ drop k bytes)))
  where
    both : (a b : Bool) → (a && b) ≡ true → a ≡ true
    both true b e = refl
    both false b e = e

    first_scalar : (d : ℕ) (es : List ℕ) → scalars (d ∷ es) ≡ true → IsScalar d
    first_scalar d es e = both (scalar_of d) (scalars es) e

-- an ASCII byte is a character
pub ascii_begins : (bytes : List ℕ) → false ≡ eqb (length bytes) 0 → slice_index bytes 0 < 128 → BeginsWith bytes (slice_index bytes 0)
ascii_begins [] some low = absurd (false≢true some)
ascii_begins (b ∷ rest) some low = (low_scalar b (omega (arith, low)), (rest, sym (ap (λ h. h ++ rest) (encode_ascii b low))))

-- bytes that are some
pub some_bytes : (bytes : List ℕ) → false ≡ eqb (length bytes) 0 → 0 < length bytes
some_bytes [] some = absurd (false≢true some)
some_bytes (b ∷ rest) some = omega arith

-- a front of bytes that have no `\` up to a place
pub plain_before : (bytes text rest : List ℕ) (end : ℕ) → bytes ≡ text ++ rest → length text ≤ end → ((k : ℕ) → 0 ≤ k → k < end → ¬ (eqb (get_or bytes k 0) 92 ≡ true)) → IsPlain text
plain_before bytes text rest end split fits none k h is =
    none k (omega arith) (omega (arith, h, fits)) (ap (λ x. eqb x 92) (ap (λ b. get_or b k 0) split ∙ get_or_append_left text rest 0 k h ∙ is))

-- what follows in a text without `\`
pub plain_rest : (xs ys : List ℕ) → IsPlain (xs ++ ys) → IsPlain ys
plain_rest xs ys plain k h is = plain (length xs + k) (omega (arith, h, length-append xs ys)) (get_or-append-add xs ys k 0 ∙ is)

-- no escape begins there
pub plain_begins : (s c : ℕ) (rest after bytes : List ℕ) → IsPlain (encode_utf8 c ++ rest) → bytes ≡ (encode_utf8 c ++ rest) ++ after → ¬ BeginsEscape s bytes
plain_begins s c rest after bytes plain split b =
    let some : 0 < length (encode_utf8 c ++ rest) = omega (arith, length-append (encode_utf8 c) rest, length-encode c, (len_utf8_bounds c).0) in
    plain 0 some (sym (get_or_append_left (encode_utf8 c ++ rest) after 0 0 some) ∙ sym (ap (λ x. get_or x 0 0) split) ∙ ap (λ x. get_or x 0 0) b.begins)

-- and no `\` stands directly before what follows a character of it
pub plain_slashes : (s c : ℕ) (rest : List ℕ) → IsPlain (encode_utf8 c ++ rest) → slashes_after s (encode_utf8 c) ≡ 0
plain_slashes s c rest plain = ap (λ b. cond b (s + 1) 0) (false_from_ne_true _ (λ e. other (ap (λ x. get_or x 0 0) ((bytes_eq-Decides (encode_utf8 c) (92 ∷ [])).0 e))))
  where
    other : get_or (encode_utf8 c) 0 0 ≢ 92
    other is =
        let some = (len_utf8_bounds c).0 in
        plain 0 (omega (arith, length-append (encode_utf8 c) rest, length-encode c, some)) (get_or_append_left (encode_utf8 c) rest 0 0 (omega (arith, length-encode c, some)) ∙ is)

-- an escape begins with two bytes
pub long_escape : (s : ℕ) (bytes : List ℕ) → BeginsEscape s bytes → length bytes ≤ 1 → ⊥
long_escape s bytes b short = let long : length bytes ≡ suc (suc (length b.after)) = ap length b.begins in omega (arith, long, short)

escape_long : (spelling : List ℕ) (value : ℕ) → IsEscape spelling value → 6 ≤ length spelling
escape_long spelling value e =
    let h = e.hex in
    let inner : length (replicate e.more 117 ++ e.digits) ≡ e.more + 4 = length-append (replicate e.more 117) e.digits ∙ ap (λ n. n + length e.digits) (length-replicate {A = ℕ} e.more 117) ∙ ap (λ ds. e.more + length ds) h.four in
    let whole : length spelling ≡ suc (suc (length (replicate e.more 117 ++ e.digits))) = ap length e.spelled in
    omega (arith, whole, inner)

-- no character is spelled in fewer bytes than it has in UTF-8
pub has_long : (s : ℕ) (text : List ℕ) (width code : ℕ) → HasChar s text width code → len_utf8 code ≤ width
has_long s text width code (spelling, after, split, wide, how) = by_spelling how
  where
    by_spelling : Spells s spelling after code → len_utf8 code ≤ width
    by_spelling (raw scalar is _) = omega (arith, wide, ap length is, length-encode code)
    by_spelling (escape b e scalar) = omega (arith, wide, escape_long spelling code e, len_utf8_bounds code)
    by_spelling (pair f g h l b cut e e' high low is) = omega (arith, wide, ap length cut, length-append f g, escape_long f h e, len_utf8_bounds code)

-- a text begins with one character
pub one_char : (s : ℕ) (text : List ℕ) (w c w' c' : ℕ) → HasChar s text w c → HasChar s text w' c' → (w ≡ w') × (c ≡ c')
one_char s text w c w' c' (sp, after, split, wide, how) (sp', after', split', wide', how') = both how how'
  where
    turned : BeginsEscape s (sp ++ after) → BeginsEscape s (sp' ++ after')
    turned b = subst (BeginsEscape s) (sym split ∙ split') b

    turned_back : BeginsEscape s (sp' ++ after') → BeginsEscape s (sp ++ after)
    turned_back b = subst (BeginsEscape s) (sym split' ∙ split) b

    no_high : (v : ℕ) → IsScalar v → IsHigh v → ⊥
    no_high v scalar high = surrogate v high.0 (omega (arith, high.1)) scalar

    both : Spells s sp after c → Spells s sp' after' c' → (w ≡ w') × (c ≡ c')
    both (raw scalar is _) (raw scalar' is' _) =
        let same = (encode_same c c' after after' (ap (λ x. x ++ after) (sym is) ∙ sym split ∙ split' ∙ ap (λ x. x ++ after') is')).0 in
        (wide ∙ ap length (is ∙ ap encode_utf8 same ∙ sym is') ∙ sym wide', same)
    both (raw scalar is not) (escape b e scalar') = absurd (not (turned_back b))
    both (raw scalar is not) (pair f g h l b cut e e' high low is') = absurd (not (turned_back b))
    both (escape b e scalar) (raw scalar' is' not) = absurd (not (turned b))
    both (escape b e scalar) (escape b' e' scalar') = one_escape text w c w' c' (after, sp, split, wide, e) (after', sp', split', wide', e')
    both (escape b e scalar) (pair f g h l b' cut e' e'' high low is') =
        let same = one_escape text w c (length f) h (after, sp, split, wide, e) (g ++ after', f, split' ∙ ap (λ x. x ++ after') cut ∙ append_assoc f g after', refl, e') in
        absurd (no_high c scalar (subst IsHigh (sym same.1) high))
    both (pair f g h l b' cut e' e'' high low is') (escape b e scalar) =
        let same = one_escape text w' c' (length f) h (after', sp', split', wide', e) (g ++ after, f, split ∙ ap (λ x. x ++ after) cut ∙ append_assoc f g after, refl, e') in
        absurd (no_high c' scalar (subst IsHigh (sym same.1) high))
    both (pair f g h l b cut e e' high low is) (raw scalar' is' not) = absurd (not (turned b))
    both (pair f g h l b cut e e' high low is) (pair f' g' h' l' b' cut' d d' high' low' is') =
        let whole : text ≡ f ++ (g ++ after) = split ∙ ap (λ x. x ++ after) cut ∙ append_assoc f g after in
        let whole' : text ≡ f' ++ (g' ++ after') = split' ∙ ap (λ x. x ++ after') cut' ∙ append_assoc f' g' after' in
        let first = one_escape text (length f) h (length f') h' (g ++ after, f, whole, refl, e) (g' ++ after', f', whole', refl, d) in
        let rest : drop (length f) text ≡ g ++ after = ap (drop (length f)) whole ∙ drop_at f (g ++ after) (length f) refl in
        let rest' : drop (length f) text ≡ g' ++ after' = ap (λ n. drop n text) first.0 ∙ ap (drop (length f')) whole' ∙ drop_at f' (g' ++ after') (length f') refl in
        let second = one_escape (drop (length f) text) (length g) l (length g') l' (after, g, rest, refl, e') (after', g', rest', refl, d') in
        (omega (arith, wide, wide', ap length cut, ap length cut', length-append f g, length-append f' g', first.0, second.0), is ∙ ap (λ v. joined v l) first.1 ∙ ap (joined h') second.1 ∙ sym is')
