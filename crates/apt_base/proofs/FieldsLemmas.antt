-- Of each form of field: what was written is read again, whatever follows; what is read is spelled so; and what is read stays so where bytes are added at the end.
use Rattle.std.proofs.Common.{◌≡◌, ℕ, zero, suc, ◌+◌, ◌^◌, ◌<◌, ◌≤◌, Bool, true, false, cond, ltb, ℤ, List, [], ◌∷◌, ◌++◌, length, get_or, take, drop, Option, Some, None, refl, sym, ap, subst, ◌∙◌, append_assoc, arith, inl, inr}
use Rattle.std.specs.Int.{Width, w16, w32, w64, byte_len, from_be_bytes, to_be_bytes, cast_signed, cast_unsigned}
use Rattle.std.specs.Int.RustNames.{FitsSigned}
use Rattle.std.specs.Str.{IsUtf8}
use Rattle.std.proofs.lemmas.Bool.{cases_lt, ltb-false, le-ltb, false_from_ne_true}
use Rattle.std.proofs.lemmas.Int.{to_z-of_z, of_z-to_z}
use Rattle.std.proofs.lemmas.List.{take_at, drop_at, take-append-drop, length-append, length-take, get_or_append_left, get_or-append-add, get_or_past}
use Rattle.std.proofs.lemmas.Nat.{be_bytes_2, be_bytes_4, be_bytes_8, from_be_bytes-to_be_bytes_2, from_be_bytes-to_be_bytes_4, from_be_bytes-to_be_bytes_8}
use Rattle.std.proofs.Math.Facts.{Fits-of_z, sfits_to_z}
use Rattle.std.proofs.lemmas.Str.{is_utf8-from_IsUtf8, IsUtf8-from_is_utf8}
use Rattle.apt_base.specs.Fields.{◌>>=◌, i64_form, bool_form, bytes_form, text_form, is_text, front_next, number_next, u8_next, u16_next, u32_next, i64_next, bool_next, bytes_next, text_next}

-- each is a byte
abbrev pub IsBytes : List ℕ → Type 0
IsBytes bytes = (i : ℕ) → get_or bytes i 0 < 256

pub IsBytes-front : (bytes front rest : List ℕ) → bytes ≡ front ++ rest → IsBytes bytes → IsBytes front
IsBytes-front bytes front rest e h i =
    let at : get_or (front ++ rest) i 0 < 256 = rw e at (h i) in
    elim (cases_lt i (length front)) [
      | inl lt ↦ rw (get_or_append_left front rest 0 i lt) at at
      | inr le ↦ rw (get_or_past front i 0 le) (omega arith)
    ]

pub IsBytes-rest : (bytes front rest : List ℕ) → bytes ≡ front ++ rest → IsBytes bytes → IsBytes rest
IsBytes-rest bytes front rest e h i =
    let at : get_or (front ++ rest) (length front + i) 0 < 256 = rw e at (h (length front + i)) in
    rw (get_or-append-add front rest i 0) at at

-- the value of a step that gave one
pub bind_some : {A B : Type 0} (r : Option A) (f : A → Option B) (y : B) → (r >>= f) ≡ Some y → (x : A) × (r ≡ Some x) × (f x ≡ Some y)
bind_some (Some x) f y e = (x, refl, e)
bind_some None f y e = absurd cc

guard_some : {A : Type 0} (b : Bool) (x y : A) → cond b None (Some x) ≡ Some y → (b ≡ false) × (x ≡ y)
guard_some true x y e = absurd cc
guard_some false x y e = (refl, cc)

kept_some : {A : Type 0} (b : Bool) (x y : A) → cond b (Some x) None ≡ Some y → (b ≡ true) × (x ≡ y)
kept_some true x y e = (refl, cc)
kept_some false x y e = absurd cc

pub some_is : {A : Type 0} (x y : A) → Some x ≡ Some y → x ≡ y
some_is x y e = cc

-- ---- this many bytes

pub front_next-again : (count : ℕ) (front rest : List ℕ) → length front ≡ count → front_next count (front ++ rest) ≡ Some (front, rest)
front_next-again count front rest len =
    let long : ltb (length (front ++ rest)) count ≡ false = le-ltb _ _ (omega (arith, length-append front rest)) in
    rw (long, take_at front rest count len, drop_at front rest count len) refl

pub front_next-takes : (count : ℕ) (bytes front rest : List ℕ) → front_next count bytes ≡ Some (front, rest) → (bytes ≡ front ++ rest) × (length front ≡ count)
front_next-takes count bytes front rest e =
    let g = guard_some (ltb (length bytes) count) (take count bytes, drop count bytes) (front, rest) e in
    let long : count ≤ length bytes = ltb-false _ _ g.0 in
    let first : take count bytes ≡ front = ap (λ (p : List ℕ × List ℕ). p.0) g.1 in
    let second : drop count bytes ≡ rest = ap (λ (p : List ℕ × List ℕ). p.1) g.1 in
    (rw (← first, ← second) (sym (take-append-drop count bytes)), rw (← first) (omega (arith, length-take count bytes)))

pub front_next-grows : (count : ℕ) (bytes front rest more : List ℕ) → front_next count bytes ≡ Some (front, rest) → front_next count (bytes ++ more) ≡ Some (front, rest ++ more)
front_next-grows count bytes front rest more e =
    let t = front_next-takes count bytes front rest e in
    rw (t.0, append_assoc front rest more) (front_next-again count front (rest ++ more) t.1)

-- ---- numbers

number_again : (w : Width) (front rest : List ℕ) (n : ℕ) → length front ≡ byte_len w → from_be_bytes w front ≡ n → number_next w (front ++ rest) ≡ Some (n, rest)
number_again w front rest n len worth = rw (front_next-again (byte_len w) front rest len, worth) refl

-- the bytes of a number that was read
number_takes : (w : Width) (bytes : List ℕ) (n : ℕ) (rest : List ℕ) → number_next w bytes ≡ Some (n, rest) → (front : List ℕ) × (bytes ≡ front ++ rest) × (length front ≡ byte_len w) × (n ≡ from_be_bytes w front)
number_takes w bytes n rest e =
    let b = bind_some (front_next (byte_len w) bytes) (λ front. Some (from_be_bytes w front.0, front.1)) (n, rest) e in
    let t = front_next-takes (byte_len w) bytes b.0.0 b.0.1 b.1 in
    let same = some_is (from_be_bytes w b.0.0, b.0.1) (n, rest) b.2 in
    subst (λ (p : ℕ × List ℕ). (front : List ℕ) × (bytes ≡ front ++ p.1) × (length front ≡ byte_len w) × (p.0 ≡ from_be_bytes w front)) same (b.0.0, t.0, t.1, refl)

number_grows : (w : Width) (bytes more : List ℕ) (n : ℕ) (rest : List ℕ) → number_next w bytes ≡ Some (n, rest) → number_next w (bytes ++ more) ≡ Some (n, rest ++ more)
number_grows w bytes more n rest e =
    let t = number_takes w bytes n rest e in
    rw (t.1, append_assoc t.0 rest more) (number_again w t.0 (rest ++ more) n t.2 (sym t.3))

pub u8_next-again : (n : ℕ) (rest : List ℕ) → u8_next (n ∷ rest) ≡ Some (n, rest)
unfolding u8_next
u8_next-again n rest = refl

pub u8_next-spelled : (bytes : List ℕ) (n : ℕ) (rest : List ℕ) → u8_next bytes ≡ Some (n, rest) → bytes ≡ n ∷ rest
unfolding u8_next
u8_next-spelled [] n rest e = absurd cc
u8_next-spelled (byte ∷ bytes) n rest e = ap (λ (p : ℕ × List ℕ). p.0 ∷ p.1) (some_is (byte, bytes) (n, rest) e)

pub u16_next-again : (n : ℕ) (rest : List ℕ) → n < 2 ^ 16 → u16_next (to_be_bytes w16 n ++ rest) ≡ Some (n, rest)
unfolding u16_next
u16_next-again n rest lt = number_again w16 (to_be_bytes w16 n) rest n refl (from_be_bytes-to_be_bytes_2 n lt)

pub u16_next-spelled : (bytes : List ℕ) (n : ℕ) (rest : List ℕ) → IsBytes bytes → u16_next bytes ≡ Some (n, rest) → (bytes ≡ to_be_bytes w16 n ++ rest) × (n < 2 ^ 16)
unfolding u16_next
u16_next-spelled bytes n rest fits e =
    let t = number_takes w16 bytes n rest e in
    let front_fits = IsBytes-front bytes t.0 rest t.1 fits in
    (t.1 ∙ ap (λ (front : List ℕ). front ++ rest) (sym (be_bytes_2 t.0 n t.2 front_fits t.3)), omega (arith, t.3, front_fits 0, front_fits 1))

pub u32_next-again : (n : ℕ) (rest : List ℕ) → n < 2 ^ 32 → u32_next (to_be_bytes w32 n ++ rest) ≡ Some (n, rest)
unfolding u32_next
u32_next-again n rest lt = number_again w32 (to_be_bytes w32 n) rest n refl (from_be_bytes-to_be_bytes_4 n lt)

pub u32_next-spelled : (bytes : List ℕ) (n : ℕ) (rest : List ℕ) → IsBytes bytes → u32_next bytes ≡ Some (n, rest) → (bytes ≡ to_be_bytes w32 n ++ rest) × (n < 2 ^ 32)
unfolding u32_next
u32_next-spelled bytes n rest fits e =
    let t = number_takes w32 bytes n rest e in
    let front_fits = IsBytes-front bytes t.0 rest t.1 fits in
    (t.1 ∙ ap (λ (front : List ℕ). front ++ rest) (sym (be_bytes_4 t.0 n t.2 front_fits t.3)), omega (arith, t.3, front_fits 0, front_fits 1, front_fits 2, front_fits 3))

pub u32_next-grows : (bytes more : List ℕ) (n : ℕ) (rest : List ℕ) → u32_next bytes ≡ Some (n, rest) → u32_next (bytes ++ more) ≡ Some (n, rest ++ more)
unfolding u32_next
u32_next-grows bytes more n rest e = number_grows w32 bytes more n rest e

unsigned_fits : (z : ℤ) → FitsSigned w64 z → cast_unsigned w64 z < 2 ^ 64
unsigned_fits z fits = (Fits-of_z fits).fits

-- the bytes of a number that was read are its bytes in two's complement
i64_spelled : (front : List ℕ) (n : ℕ) → IsBytes front → length front ≡ 8 → n ≡ from_be_bytes w64 front → (front ≡ i64_form (cast_signed w64 n)) × FitsSigned w64 (cast_signed w64 n)
i64_spelled front n fits len worth =
    let small : n < 2 ^ 64 = omega (arith, worth, fits 0, fits 1, fits 2, fits 3, fits 4, fits 5, fits 6, fits 7) in
    let same : cast_unsigned w64 (cast_signed w64 n) ≡ n = of_z-to_z w64 n small in
    (sym (be_bytes_8 front (cast_unsigned w64 (cast_signed w64 n)) len fits (same ∙ worth)), sfits_to_z (record { fits = small }))

-- ---- truth

pub bool_next-again : (b : Bool) (rest : List ℕ) → bool_next (bool_form b ++ rest) ≡ Some (b, rest)
unfolding bool_next
bool_next-again false rest = refl
bool_next-again true rest = refl

pub bool_next-spelled : (bytes : List ℕ) (b : Bool) (rest : List ℕ) → bool_next bytes ≡ Some (b, rest) → bytes ≡ bool_form b ++ rest
unfolding bool_next
bool_next-spelled [] b rest e = absurd cc
bool_next-spelled (zero ∷ bytes) b rest e = ap (λ (p : Bool × List ℕ). bool_form p.0 ++ p.1) (some_is (false, bytes) (b, rest) e)
bool_next-spelled (suc zero ∷ bytes) b rest e = ap (λ (p : Bool × List ℕ). bool_form p.0 ++ p.1) (some_is (true, bytes) (b, rest) e)
bool_next-spelled (suc (suc byte) ∷ bytes) b rest e = absurd cc

-- ---- bytes and texts

pub bytes_next-again : (bytes rest : List ℕ) → length bytes < 2 ^ 32 → bytes_next (bytes_form bytes ++ rest) ≡ Some (bytes, rest)
unfolding bytes_next
bytes_next-again bytes rest lt =
    rw (append_assoc (to_be_bytes w32 (length bytes)) bytes rest, u32_next-again (length bytes) (bytes ++ rest) lt) (front_next-again (length bytes) bytes rest refl)

pub bytes_next-spelled : (all bytes rest : List ℕ) → IsBytes all → bytes_next all ≡ Some (bytes, rest) → (all ≡ bytes_form bytes ++ rest) × (length bytes < 2 ^ 32)
unfolding bytes_next
bytes_next-spelled all bytes rest fits e =
    let b = bind_some (u32_next all) (λ count. front_next count.0 count.1) (bytes, rest) e in
    let n = u32_next-spelled all b.0.0 b.0.1 fits b.1 in
    let t = front_next-takes b.0.0 b.0.1 bytes rest b.2 in
    (n.0 ∙ rw (← t.1, t.0) (sym (append_assoc (to_be_bytes w32 (length bytes)) bytes rest)), rw t.1 n.1)

pub bytes_next-grows : (all more bytes rest : List ℕ) → bytes_next all ≡ Some (bytes, rest) → bytes_next (all ++ more) ≡ Some (bytes, rest ++ more)
unfolding bytes_next
bytes_next-grows all more bytes rest e =
    let b = bind_some (u32_next all) (λ count. front_next count.0 count.1) (bytes, rest) e in
    rw (u32_next-grows all more b.0.0 b.0.1 b.1) (front_next-grows b.0.0 b.0.1 bytes rest more b.2)

pub is_text-of_utf8 : (bytes : List ℕ) → IsUtf8 bytes → is_text bytes ≡ true
is_text-of_utf8 bytes h = is_utf8-from_IsUtf8 bytes h

pub is_text-only : (bytes : List ℕ) → is_text bytes ≡ true → IsUtf8 bytes
is_text-only bytes h = IsUtf8-from_is_utf8 bytes h

pub is_text-fails : (bytes : List ℕ) → ¬ (IsUtf8 bytes) → is_text bytes ≡ false
is_text-fails bytes h = false_from_ne_true (is_text bytes) (λ valid. h (is_text-only bytes valid))

pub text_next-again : (text rest : List ℕ) → is_text text ≡ true → length text < 2 ^ 32 → text_next (text_form text ++ rest) ≡ Some (text, rest)
unfolding text_next
text_next-again text rest valid lt = rw (bytes_next-again text rest lt, valid) refl

pub text_next-spelled : (all text rest : List ℕ) → IsBytes all → text_next all ≡ Some (text, rest) → (all ≡ text_form text ++ rest) × (length text < 2 ^ 32) × (is_text text ≡ true)
unfolding text_next
text_next-spelled all text rest fits e =
    let b = bind_some (bytes_next all) (λ t. cond (is_text t.0) (Some t) None) (text, rest) e in
    let k = kept_some (is_text b.0.0) b.0 (text, rest) b.2 in
    let whole = bytes_next-spelled all b.0.0 b.0.1 fits b.1 in
    subst (λ (p : List ℕ × List ℕ). (all ≡ text_form p.0 ++ p.1) × (length p.0 < 2 ^ 32) × (is_text p.0 ≡ true)) k.1 (whole.0, whole.1, k.0)
