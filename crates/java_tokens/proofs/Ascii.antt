-- ASCII texts are the same in characters and in bytes.
use Rattle.std.proofs.Common.{◌≡◌, ◌⊎◌, inl, inr, ◌&&◌, nat_lt, ℕ, ◌+◌, ◌<◌, ◌≤◌, Bool, true, false, cond, List, [], ◌∷◌, ◌++◌, length, take, drop, Some, bytes_eq, refl, sym, ap, ◌∙◌, arith, append-nil, length-append}
use Rattle.std.proofs.lemmas.Bool.{false≢true, cases_lt, ltb-true}
use Rattle.std.proofs.lemmas.List.{take-append-drop, take_at, take_all, drop_all, length-take-le}
use Rattle.std.proofs.lemmas.Slice.Eq.{bytes_eq-Decides}
use Rattle.std.proofs.lemmas.Str.{encodes-chars, encode_ascii, encodes-append, cons_from_encodes, length-le-encodes}
use Rattle.std.specs.Str.{chars, IsUtf8, encode_utf8_all}
use Rattle.case_table.specs.Rows.{number_of}
use Rattle.java_tokens.proofs.TableLemmas.{both_true, all_below}

pub encodes_ascii : (o : List ℕ) → all_below 128 o ≡ true → encode_utf8_all o ≡ o
encodes_ascii [] e = refl
encodes_ascii (x ∷ o) e =
    let both = both_true (nat_lt x 128) (all_below 128 o) e in
    ap (λ h. h ++ encode_utf8_all o) (encode_ascii x (ltb-true x 128 both.0)) ∙ ap (λ t. x ∷ t) (encodes_ascii o both.1)

ascii_front : (o cs r : List ℕ) → all_below 128 o ≡ true → encode_utf8_all cs ≡ o ++ r → (rest : List ℕ) × (cs ≡ o ++ rest) × (encode_utf8_all rest ≡ r)
ascii_front [] cs r e is = (cs, refl, is)
ascii_front (x ∷ o) cs r e is =
    let both = both_true (nat_lt x 128) (all_below 128 o) e in
    let first = cons_from_encodes cs (o ++ r) x (is ∙ sym (ap (λ h. h ++ (o ++ r)) (encode_ascii x (ltb-true x 128 both.0)))) in
    let more = ascii_front o first.0 r both.1 first.2 in
    (more.0, first.1 ∙ ap (λ t. x ∷ t) more.1, more.2)

none_left : (xs : List ℕ) → length xs ≡ 0 → xs ≡ []
none_left [] e = refl
none_left (x ∷ xs) e = absurd (omega (arith, e))

pub chars_taken : (m : ℕ) (o bs : List ℕ) → all_below 128 o ≡ true → IsUtf8 bs → take m bs ≡ o → take m (chars bs) ≡ o
chars_taken m o bs e utf8 is = by_order (cases_lt (length bs) m)
  where
    split : bs ≡ o ++ drop m bs
    split = sym (take-append-drop m bs) ∙ ap (λ x. x ++ drop m bs) is

    front : (rest : List ℕ) × (chars bs ≡ o ++ rest) × (encode_utf8_all rest ≡ drop m bs)
    front = ascii_front o (chars bs) (drop m bs) e (encodes-chars bs utf8 ∙ split)

    by_order : (length bs < m) ⊎ (m ≤ length bs) → take m (chars bs) ≡ o
    by_order (inr long) = ap (take m) front.1 ∙ take_at o front.0 m (ap length (sym is) ∙ length-take-le m bs long)
    by_order (inl short) =
        let no_bytes : drop m bs ≡ [] = drop_all m bs (omega (arith, short)) in
        let no_rest : front.0 ≡ [] = none_left front.0 (omega (arith, length-le-encodes front.0, ap length (front.2 ∙ no_bytes))) in
        let whole : chars bs ≡ o = front.1 ∙ ap (λ x. o ++ x) no_rest ∙ append-nil o in
        ap (take m) whole ∙ take_all m o (omega (arith, ap length split, length-append o (drop m bs), short))

pub bytes_taken : (m : ℕ) (o bs : List ℕ) → all_below 128 o ≡ true → IsUtf8 bs → take m (chars bs) ≡ o → take m bs ≡ o
bytes_taken m o bs e utf8 is = by_order (cases_lt (length (chars bs)) m)
  where
    split : bs ≡ o ++ encode_utf8_all (drop m (chars bs))
    split =
        sym (encodes-chars bs utf8) ∙ ap encode_utf8_all (sym (take-append-drop m (chars bs)) ∙ ap (λ x. x ++ drop m (chars bs)) is) ∙ encodes-append o (drop m (chars bs))
        ∙ ap (λ x. x ++ encode_utf8_all (drop m (chars bs))) (encodes_ascii o e)

    by_order : (length (chars bs) < m) ⊎ (m ≤ length (chars bs)) → take m bs ≡ o
    by_order (inr long) = ap (take m) split ∙ take_at o (encode_utf8_all (drop m (chars bs))) m (ap length (sym is) ∙ length-take-le m (chars bs) long)
    by_order (inl short) =
        let no_chars : drop m (chars bs) ≡ [] = drop_all m (chars bs) (omega (arith, short)) in
        let whole : bs ≡ o = split ∙ ap (λ x. o ++ encode_utf8_all x) no_chars ∙ append-nil o in
        let count : length (chars bs) ≡ length o = ap length (sym (take_all m (chars bs) (omega (arith, short))) ∙ is) in
        ap (take m) whole ∙ take_all m o (omega (arith, count, short))

same_test : (a b c d : List ℕ) → (a ≡ b → c ≡ d) → (c ≡ d → a ≡ b) → bytes_eq a b ≡ bytes_eq c d
same_test a b c d to from = by_test (bytes_eq a b) refl
  where
    by_other : (y : Bool) → bytes_eq c d ≡ y → bytes_eq a b ≡ false → false ≡ y
    by_other false q p = refl
    by_other true q p = absurd (false≢true (sym p ∙ (bytes_eq-Decides a b).1 (from ((bytes_eq-Decides c d).0 q))))

    by_test : (x : Bool) → bytes_eq a b ≡ x → x ≡ bytes_eq c d
    by_test true p = sym ((bytes_eq-Decides c d).1 (to ((bytes_eq-Decides a b).0 p)))
    by_test false p = by_other (bytes_eq c d) refl p

-- a front is a given ASCII text in characters exactly where it is in bytes
pub same_front : (m : ℕ) (o bs : List ℕ) → all_below 128 o ≡ true → IsUtf8 bs → bytes_eq (take m bs) o ≡ bytes_eq (take m (chars bs)) o
same_front m o bs e utf8 = same_test (take m bs) o (take m (chars bs)) o (chars_taken m o bs e utf8) (bytes_taken m o bs e utf8)

-- rows of ASCII texts
abbrev pub texts_low : List (List ℕ × ℕ) → Bool
texts_low [] = true
texts_low (row ∷ rows) = all_below 128 row.0 && texts_low rows

pub same_number : (rows : List (List ℕ × ℕ)) (m : ℕ) (bs : List ℕ) → texts_low rows ≡ true → IsUtf8 bs → number_of rows (take m bs) ≡ number_of rows (take m (chars bs))
same_number [] m bs e utf8 = refl
same_number (row ∷ rows) m bs e utf8 =
    let both = both_true (all_below 128 row.0) (texts_low rows) e in
    let tests : bytes_eq row.0 (take m bs) ≡ bytes_eq row.0 (take m (chars bs)) =
    same_test row.0 (take m bs) row.0 (take m (chars bs)) (λ p. sym (chars_taken m row.0 bs both.0 utf8 (sym p))) (λ p. sym (bytes_taken m row.0 bs both.0 utf8 (sym p))) in
    ap (λ b. cond b (Some row.1) (number_of rows (take m bs))) tests ∙ ap (cond (bytes_eq row.0 (take m (chars bs))) (Some row.1)) (same_number rows m bs both.1 utf8)

-- of whole texts
pub same_number_all : (rows : List (List ℕ × ℕ)) (bs : List ℕ) → texts_low rows ≡ true → IsUtf8 bs → number_of rows bs ≡ number_of rows (chars bs)
same_number_all rows bs e utf8 =
    let n = length bs + length (chars bs) in
    ap (number_of rows) (sym (take_all n bs (omega arith))) ∙ same_number rows n bs e utf8 ∙ ap (number_of rows) (take_all n (chars bs) (omega arith))

pub same_text : (o bs : List ℕ) → all_below 128 o ≡ true → IsUtf8 bs → bytes_eq bs o ≡ bytes_eq (chars bs) o
same_text o bs e utf8 =
    let n = length bs + length (chars bs) in
    ap (λ x. bytes_eq x o) (sym (take_all n bs (omega arith))) ∙ same_front n o bs e utf8 ∙ ap (λ x. bytes_eq x o) (take_all n (chars bs) (omega arith))
