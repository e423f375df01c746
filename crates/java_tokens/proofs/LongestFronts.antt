-- The longest front that the table knows, or else the longest operator, is the longest token or separator.
use lib.Utf8.{scalars, scalar}
use Rattle.std.proofs.Common.{◌≡◌, ◌≢◌, ◌⊎◌, inl, inr, ◌&&◌, eqb, nat_lt, ℕ, zero, suc, ◌-◌, ◌<◌, ◌≤◌, Bool, true, false, cond, List, [], ◌∷◌, ◌++◌, length, take, drop, min, codes, Option, None, Some, bytes_eq, refl, sym, ap, ◌∙◌, subst, arith, length-append}
use Rattle.std.proofs.lemmas.Bool.{false≢true, cases_lt, ltb-true}
use Rattle.std.proofs.lemmas.Bool.Decides.{Decides-eqb}
use Rattle.std.proofs.lemmas.List.{take-take, length-take-le, take_all, take-append-drop, take_at}
use Rattle.std.proofs.lemmas.Slice.Eq.{bytes_eq-Decides}
use Rattle.std.proofs.lemmas.Str.{length-le-encodes, encodes-chars, encodes-append, scalars-chars, chars-encodes, IsCharBoundary-from_take}
use Rattle.std.specs.Str.{chars, IsUtf8, IsCharBoundary, encode_utf8_all}
use Rattle.case_table.specs.Rows.{number_of}
use Rattle.java_tokens.specs.declared.token.TokenKind.{TokenKind}
use Rattle.java_tokens.specs.declared.token.TokenKind.TheVariants.{Operator}
use Rattle.java_tokens.specs.Sorts.{sort_of}
use Rattle.java_tokens.specs.Words.{word_rows, operator_rows}
use Rattle.java_tokens.specs.Tokens.{Begins, HasNoNext}
use Rattle.java_tokens.specs.Table.{class_of, kind_by, kind_of, operator_by, bytes_of, IsLongest, IsUnknown, IsBest, HasNone, IsBestFront, IsFront, IsOperatorFront, HasNoOperator, word_by, word_kind, separates, is_text_block, Passes}
use Rattle.java_tokens.proofs.TableLemmas.{both_true, all_below}
use Rattle.java_tokens.proofs.TextKinds.{operator_class}
use Rattle.java_tokens.proofs.Scans.{bytes_within}
use Rattle.java_tokens.proofs.NextFronts.{next_of_best, no_next_other, begins_taken, begins_of, text_block_is, not_text_block}
use Rattle.java_tokens.proofs.Ascii.{encodes_ascii, chars_taken, same_front, texts_low, same_number, same_number_all}

abbrev all_rows : (List ℕ → Bool) → List (List ℕ × ℕ) → Bool
all_rows p [] = true
all_rows p (row ∷ rows) = p row.0 && all_rows p rows

-- what holds of each text of the rows holds of a text with a number
row_at : (p : List ℕ → Bool) (rows : List (List ℕ × ℕ)) (t : List ℕ) (n : ℕ) → all_rows p rows ≡ true → number_of rows t ≡ Some n → p t ≡ true
row_at p [] t n e is = absurd (cc)
row_at p (row ∷ rows) t n e is = by_test (bytes_eq row.0 t) refl (both_true (p row.0) (all_rows p rows) e) is (λ x y. row_at p rows t n x y)
  where
    by_test : (b : Bool) → bytes_eq row.0 t ≡ b → (p row.0 ≡ true) × (all_rows p rows ≡ true) → cond b (Some row.1) (number_of rows t) ≡ Some n → (all_rows p rows ≡ true → number_of rows t ≡ Some n → p t ≡ true) → p t ≡ true
    by_test true same both is later = subst (λ u. p u ≡ true) ((bytes_eq-Decides row.0 t).0 same) both.0
    by_test false same both is later = later both.1 is

-- no front of an operator has a class
abbrev fronts_apart : ℕ → List ℕ → Bool
fronts_apart zero t = true
fronts_apart (suc n) t = eqb (class_of (take n t)) 7 && fronts_apart n t

fronts_test : all_rows (fronts_apart 5) operator_rows ≡ true
unfolding sort_of
fronts_test = refl

-- each is at most four characters, all ASCII
short_test : all_rows (λ t. nat_lt (length t) 5) operator_rows ≡ true
short_test = refl

ascii_test : all_rows (all_below 128) operator_rows ≡ true
ascii_test = refl

pub rows_test : texts_low operator_rows ≡ true
rows_test = refl

front_at : (n m : ℕ) (t : List ℕ) → fronts_apart n t ≡ true → m < n → class_of (take m t) ≡ 7
front_at zero m t e h = absurd (omega (arith, h))
front_at (suc n) m t e h = by_place (both_true (eqb (class_of (take n t)) 7) (fronts_apart n t) e) (λ p. front_at n m t p) (cases_lt m n)
  where
    by_place : (eqb (class_of (take n t)) 7 ≡ true) × (fronts_apart n t ≡ true) → (fronts_apart n t ≡ true → m < n → class_of (take m t) ≡ 7) → (m < n) ⊎ (n ≤ m) → class_of (take m t) ≡ 7
    by_place p later (inl less) = later p.1 less
    by_place p later (inr more) = let here : n ≡ m = omega (arith, h, more) in subst (λ k. class_of (take k t) ≡ 7) here ((Decides-eqb (class_of (take n t)) 7).0 p.0)

pub operator_short : (t : List ℕ) (n : ℕ) → number_of operator_rows t ≡ Some n → length t < 5
operator_short t n is = ltb-true (length t) 5 (row_at (λ t. nat_lt (length t) 5) operator_rows t n short_test is)

operator_ascii : (t : List ℕ) (n : ℕ) → number_of operator_rows t ≡ Some n → all_below 128 t ≡ true
operator_ascii t n is = row_at (all_below 128) operator_rows t n ascii_test is

operator_front_class : (t : List ℕ) (n m : ℕ) → number_of operator_rows t ≡ Some n → class_of (take m t) ≡ 7
operator_front_class t n m is = by_place (cases_lt m 5)
  where
    by_place : (m < 5) ⊎ (5 ≤ m) → class_of (take m t) ≡ 7
    by_place (inl less) = front_at 5 m t (row_at (fronts_apart 5) operator_rows t n fronts_test is) less
    by_place (inr more) = ap class_of (take_all m t (omega (arith, operator_short t n is, more))) ∙ operator_class t n is

-- where the table knows a front, no operator is longer
pub found_best : (cs : List ℕ) (m class : ℕ) (k : Option TokenKind) → IsLongest cs (length cs) m class → kind_by class (take m cs) ≡ Some k → IsBest cs (length cs) m k
found_best cs m class k longest is = record {
  within = longest.within;
  found = ap (λ c. kind_by c (take m cs)) longest.found ∙ is;
  past = λ j more less. ap (λ c. kind_by c (take j cs)) (longest.past j more less) ∙ by_number j (number_of operator_rows (take j cs)) refl more;
}
  where
    by_number : (j : ℕ) (o : Option ℕ) → number_of operator_rows (take j cs) ≡ o → m < j → operator_by o ≡ None
    by_number j None e more = refl
    by_number j (Some n) e more =
        let seven : class_of (take m cs) ≡ 7 = ap class_of (sym (take-take m j cs (omega (arith, more)))) ∙ operator_front_class (take j cs) n m e in
        absurd (omega (arith, seven, longest.found, longest.known))

operator_kind : (cs : List ℕ) (j : ℕ) (o : Option ℕ) → IsUnknown cs (length cs) → j ≤ length cs → number_of operator_rows (take j cs) ≡ o → kind_of (take j cs) ≡ operator_by o
operator_kind cs j o unknown less is = ap (λ c. kind_by c (take j cs)) (unknown.none j less) ∙ ap operator_by is

-- where it knows none, the longest operator is the longest
pub operator_best : (bs : List ℕ) (width n : ℕ) → IsUtf8 bs → IsUnknown (chars bs) (length (chars bs)) → IsOperatorFront bs width n → IsBestFront (chars bs) width (Some (Operator n))
operator_best bs width n utf8 unknown front = (width, record { within = within; found = operator_kind (chars bs) width (Some n) unknown within here; past = λ j more less. operator_kind (chars bs) j None unknown less (sym (same_number operator_rows j bs rows_test utf8) ∙ front.past j more (omega (arith, less, few))) }, wide)
  where
    few : length (chars bs) ≤ length bs
    few = omega (arith, length-le-encodes (chars bs), ap length (encodes-chars bs utf8))

    low : all_below 128 (take width bs) ≡ true
    low = operator_ascii (take width bs) n front.found

    taken : take width (chars bs) ≡ take width bs
    taken = chars_taken width (take width bs) bs low utf8 refl

    long : length (take width bs) ≡ width
    long = length-take-le width bs front.within

    within : width ≤ length (chars bs)
    within = omega (arith, long, ap length taken, ap length (take-append-drop width (chars bs)), length-append (take width (chars bs)) (drop width (chars bs)))

    here : number_of operator_rows (take width (chars bs)) ≡ Some n
    here = ap (number_of operator_rows) taken ∙ front.found

    wide : width ≡ bytes_of (chars bs) width
    wide = sym (ap (λ t. length (encode_utf8_all t)) taken ∙ ap length (encodes_ascii (take width bs) low) ∙ long)

pub no_operator_none : (bs : List ℕ) → IsUtf8 bs → IsUnknown (chars bs) (length (chars bs)) → HasNoOperator bs → HasNone (chars bs) (length (chars bs))
no_operator_none bs utf8 unknown no_operator = record { none = λ j less. operator_kind (chars bs) j None unknown less (sym (same_number operator_rows j bs rows_test utf8) ∙ no_operator.none j (omega (arith, less, length-le-encodes (chars bs), ap length (encodes-chars bs utf8)))) }

-- of the fronts of bytes none that is wider than this is an operator
pub record IsTried (bs : List ℕ) (width : ℕ) : Type 0 where
  pub within : width ≤ length bs
  pub past : (j : ℕ) → width < j → j ≤ length bs → number_of operator_rows (take j bs) ≡ None

not_long : (t : List ℕ) (o : Option ℕ) → number_of operator_rows t ≡ o → 5 ≤ length t → o ≡ None
not_long t None e long = refl
not_long t (Some n) e long = absurd (omega (arith, operator_short t n e, long))

pub tried_none : (bs : List ℕ) (width : ℕ) → width ≡ min (length bs) 4 → IsTried bs width
tried_none bs width is = record {
  within = omega (arith, is);
  past = λ j more less. not_long (take j bs) (number_of operator_rows (take j bs)) refl (omega (arith, is, more, less, length-take-le j bs less));
}

pub tried_more : (bs : List ℕ) (width : ℕ) → IsTried bs width → 0 < width → number_of operator_rows (take width bs) ≡ None → IsTried bs (width - 1)
tried_more bs width tried some none = record { within = omega (arith, tried.within); past = λ j more less. by_order j more less (cases_lt width j) }
  where
    by_order : (j : ℕ) → width - 1 < j → j ≤ length bs → (width < j) ⊎ (j ≤ width) → number_of operator_rows (take j bs) ≡ None
    by_order j more less (inl long) = tried.past j long less
    by_order j more less (inr short) = let here : width ≡ j = omega (arith, more, short, some) in subst (λ i. number_of operator_rows (take i bs) ≡ None) here none

pub tried_all : (bs : List ℕ) (width : ℕ) → IsTried bs width → width ≤ 0 → HasNoOperator bs
tried_all bs width tried end = record { none = λ j less. by_order j less (cases_lt width j) }
  where
    by_order : (j : ℕ) → j ≤ length bs → (width < j) ⊎ (j ≤ width) → number_of operator_rows (take j bs) ≡ None
    by_order j less (inl more) = tried.past j more less
    by_order j less (inr none) = let here : 0 ≡ j = omega (arith, none, end) in subst (λ i. number_of operator_rows (take i bs) ≡ None) here refl

pub tried_found : (bs : List ℕ) (width n : ℕ) → IsTried bs width → number_of operator_rows (take width bs) ≡ Some n → IsOperatorFront bs width n
tried_found bs width n tried is = record { within = tried.within; found = is; past = tried.past }

-- scalars
scalars_taken : (cs : List ℕ) (n : ℕ) → scalars cs ≡ true → scalars (take n cs) ≡ true
scalars_taken cs zero e = refl
scalars_taken [] (suc n) e = refl
scalars_taken (c ∷ cs) (suc n) e =
    let both = both_true (scalar c) (scalars cs) e in
    ap (λ b. b && scalars (take n cs)) both.0 ∙ scalars_taken cs n both.1

-- a front in characters is one in bytes
pub front_bytes : (bs : List ℕ) (m width : ℕ) → IsUtf8 bs → width ≡ bytes_of (chars bs) m → take width bs ≡ encode_utf8_all (take m (chars bs))
front_bytes bs m width utf8 wide =
    let split : bs ≡ encode_utf8_all (take m (chars bs)) ++ encode_utf8_all (drop m (chars bs)) =
    sym (encodes-chars bs utf8) ∙ ap encode_utf8_all (sym (take-append-drop m (chars bs))) ∙ encodes-append (take m (chars bs)) (drop m (chars bs)) in
    ap (take width) split ∙ take_at (encode_utf8_all (take m (chars bs))) (encode_utf8_all (drop m (chars bs))) width (sym wide)

pub front_utf8 : (bs : List ℕ) (m width : ℕ) → IsUtf8 bs → width ≡ bytes_of (chars bs) m → IsUtf8 (take width bs)
front_utf8 bs m width utf8 wide = (take m (chars bs), (scalars_taken (chars bs) m (scalars-chars bs utf8), sym (front_bytes bs m width utf8 wide)))

pub front_within : (bs : List ℕ) (m width : ℕ) → IsUtf8 bs → width ≡ bytes_of (chars bs) m → width ≤ length bs
front_within bs m width utf8 wide = omega (arith, wide, bytes_within (chars bs) m, ap length (encodes-chars bs utf8))

pub front_boundary : (bs : List ℕ) (m width : ℕ) → IsUtf8 bs → width ≡ bytes_of (chars bs) m → IsCharBoundary bs width
front_boundary bs m width utf8 wide = IsCharBoundary-from_take bs width utf8 (front_within bs m width utf8 wide) (front_utf8 bs m width utf8 wide)

pub front_chars : (bs : List ℕ) (m width : ℕ) → IsUtf8 bs → width ≡ bytes_of (chars bs) m → chars (take width bs) ≡ take m (chars bs)
front_chars bs m width utf8 wide = ap chars (front_bytes bs m width utf8 wide) ∙ chars-encodes (take m (chars bs)) (scalars_taken (chars bs) m (scalars-chars bs utf8))

words_test : texts_low word_rows ≡ true
words_test = refl

-- a word in bytes and in characters
pub word_number : (w : List ℕ) (o : Option ℕ) → IsUtf8 w → number_of word_rows w ≡ o → word_kind (chars w) ≡ word_by o
word_number w o utf8 is = ap word_by (sym (same_number_all word_rows w words_test utf8) ∙ is)

begun : (o : List ℕ) (bs : List ℕ) (b : Bool) → all_below 128 o ≡ true → IsUtf8 bs → bytes_eq (take (length o) bs) o ≡ b → bytes_eq (take (length o) (chars bs)) o ≡ b
begun o bs b low utf8 is = sym (same_front (length o) o bs low utf8) ∙ is

begins_true : (o : List ℕ) (bs : List ℕ) → all_below 128 o ≡ true → IsUtf8 bs → bytes_eq (take (length o) bs) o ≡ true → Begins o (chars bs)
begins_true o bs low utf8 is = begins_of o (chars bs) ((bytes_eq-Decides (take (length o) (chars bs)) o).0 (begun o bs true low utf8 is))

begins_false : (o : List ℕ) (bs : List ℕ) → all_below 128 o ≡ true → IsUtf8 bs → bytes_eq (take (length o) bs) o ≡ false → ¬ Begins o (chars bs)
begins_false o bs low utf8 is = λ begins. false≢true (sym (begun o bs false low utf8 is) ∙ (bytes_eq-Decides (take (length o) (chars bs)) o).1 (begins_taken o (chars bs) begins))

separates_is : (k : Option TokenKind) → separates k ≡ true → k ≡ None
separates_is None e = refl
separates_is (Some k) e = absurd (false≢true e)

not_separates : (k : Option TokenKind) → separates k ≡ false → k ≢ None
not_separates k e is = false≢true (sym e ∙ ap separates is)

-- a comment was begun, and is none
pub no_comment : (bs : List ℕ) (width : ℕ) (k : Option TokenKind) → IsUtf8 bs → IsBestFront (chars bs) width k → bytes_eq (take 2 bs) (codes "/*") ≡ true → separates k ≡ false → HasNoNext (chars bs)
no_comment bs width k utf8 (m, best, wide) begins other =
    no_next_other (chars bs) m k best (λ front rest next. not_separates k other (next.comment (begins_true (codes "/*") bs refl utf8 begins)))

pub no_block : (bs : List ℕ) (width : ℕ) (k : Option TokenKind) → IsUtf8 bs → IsBestFront (chars bs) width k → bytes_eq (take 3 bs) (codes "\"\"\"") ≡ true → is_text_block k ≡ false → HasNoNext (chars bs)
no_block bs width k utf8 (m, best, wide) begins other =
    no_next_other (chars bs) m k best (λ front rest next. not_text_block k other (next.block (begins_true (codes "\"\"\"") bs refl utf8 begins)))

passed : {P : Type 0} (o bs : List ℕ) (is : Bool) → all_below 128 o ≡ true → IsUtf8 bs → Passes o bs is → (is ≡ true → P) → Begins o (chars bs) → P
passed o bs is low utf8 (inl e) then_is begins = absurd (begins_false o bs low utf8 e begins)
passed o bs is low utf8 (inr e) then_is begins = then_is e

pub front_chosen : (bs : List ℕ) (width : ℕ) (k : Option TokenKind) → IsUtf8 bs → IsBestFront (chars bs) width k → Passes (codes "/*") bs (separates k) → Passes (codes "\"\"\"") bs (is_text_block k) → IsFront (chars bs) width k
front_chosen bs width k utf8 (m, best, wide) comment block =
    (take m (chars bs), drop m (chars bs), next_of_best (chars bs) m k best (passed (codes "/*") bs (separates k) refl utf8 comment (separates_is k)) (passed (codes "\"\"\"") bs (is_text_block k) refl utf8 block (text_block_is k)), wide)
