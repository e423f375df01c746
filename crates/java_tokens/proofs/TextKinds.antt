-- What a text is, as a function.
use Rattle.std.proofs.Common.{◌≡◌, ◌≢◌, inl, inr, ◌&&◌, eqb, ℕ, zero, suc, ◌<◌, nat_lt, Bool, true, false, List, [], ◌∷◌, ◌++◌, map, get_or, MatchOption, codes, Option, None, Some, bytes_eq, cond, refl, sym, ap, ◌∙◌, subst, arith}
use Rattle.std.proofs.lemmas.Bool.{false≢true, ltb-true}
use Rattle.std.proofs.lemmas.Bool.Decides.{Decides-eqb, not_from_Decides}
use Rattle.std.proofs.lemmas.Slice.Eq.{bytes_eq-Decides}
use Rattle.apt_base.specs.Identifiers.{numbered, word_literals}
use Rattle.case_table.specs.Rows.{number_of}
use Rattle.java_tokens.specs.declared.token.TokenKind.{TokenKind}
use Rattle.java_tokens.specs.declared.token.TokenKind.TheVariants.{Identifier, Reserved, Integer, Floating, Character, Text, TextBlock, Operator, Truth, Null}
use Rattle.java_tokens.specs.Words.{reserved_rows, word_rows, operator_rows}
use Rattle.java_tokens.specs.Forms.{among, nothing, IsOf}
use Rattle.java_tokens.specs.Sorts.{sort_of, sort_in, sort_rows, class_sort}
use Rattle.java_tokens.specs.Literals.{Is, word}
use Rattle.java_tokens.specs.Tokens.{IsToken, IsElement}
use Rattle.java_tokens.specs.Table.{class_of, reserved_kind, word_by, word_kind, operator_by, kind_by, kind_of}
use Rattle.java_tokens.proofs.TableLemmas.{AreSorts, class_of_form, form_of_class, both_true, forms}

cond_less : (b : Bool) (x y : ℕ) → x < 26 → y < 26 → cond b x y < 26
cond_less true x y p q = p
cond_less false x y p q = q

class_sort_less : (c : ℕ) → class_sort c < 26
class_sort_less c = cond_less _ 12 _ (omega arith) (cond_less _ 13 24 (omega arith) (omega arith))

abbrev all_low : List (List ℕ × ℕ) → Bool
all_low [] = true
all_low (row ∷ rows) = nat_lt row.1 26 && all_low rows

sort_in_less : (rows : List (List ℕ × ℕ)) (c : ℕ) → all_low rows ≡ true → sort_in rows c < 26
sort_in_less [] c e = class_sort_less c
sort_in_less (row ∷ rows) c e =
    let p = both_true (nat_lt row.1 26) (all_low rows) e in
    cond_less (among row.0 c) row.1 (sort_in rows c) (ltb-true row.1 26 p.0) (sort_in_less rows c p.1)

pub sort_less : (c : ℕ) → sort_of c < 26
unfolding sort_of
sort_less c = sort_in_less sort_rows c refl

pub are_sorts : (cs : List ℕ) → AreSorts (map sort_of cs)
are_sorts [] = tt
are_sorts (c ∷ cs) = (sort_less c, are_sorts cs)

classed : (i : ℕ) (t : List ℕ) (k : Option TokenKind) → class_of t ≡ i → kind_by i t ≡ Some k → kind_of t ≡ Some k
classed i t k is e = ap (λ n. kind_by n t) is ∙ e

-- the number of a text in one table before another
abbrev or_number : Option ℕ → Option ℕ → Option ℕ
or_number (Some n) o = Some n
or_number None o = o

or_by : (b : Bool) (n : ℕ) (o p q : Option ℕ) → p ≡ or_number o q → cond b (Some n) p ≡ or_number (cond b (Some n) o) q
or_by true n o p q e = refl
or_by false n o p q e = e

number_of-append : (rows more : List (List ℕ × ℕ)) (t : List ℕ) → number_of (rows ++ more) t ≡ or_number (number_of rows t) (number_of more t)
number_of-append [] more t = refl
number_of-append (row ∷ rows) more t = or_by (bytes_eq row.0 t) row.1 (number_of rows t) (number_of (rows ++ more) t) (number_of more t) (number_of-append rows more t)

-- the rows of the literals that are words
abbrev literal_rows : List (List ℕ × ℕ)
literal_rows = numbered 51 word_literals

rows_are : word_rows ≡ reserved_rows ++ literal_rows
rows_are = refl

words_are : (t : List ℕ) → number_of word_rows t ≡ or_number (number_of reserved_rows t) (number_of literal_rows t)
words_are t = ap (λ rows. number_of rows t) rows_are ∙ number_of-append reserved_rows literal_rows t

abbrev numbers_below : ℕ → List (List ℕ × ℕ) → Bool
numbers_below m [] = true
numbers_below m (row ∷ rows) = nat_lt row.1 m && numbers_below m rows

number_below : (m : ℕ) (rows : List (List ℕ × ℕ)) (t : List ℕ) (n : ℕ) → numbers_below m rows ≡ true → number_of rows t ≡ Some n → nat_lt n m ≡ true
number_below m [] t n e is = absurd (cc)
number_below m (row ∷ rows) t n e is = by_test (bytes_eq row.0 t) (both_true (nat_lt row.1 m) (numbers_below m rows) e) is (λ p q. number_below m rows t n p q)
  where
    by_test : (b : Bool) → (nat_lt row.1 m ≡ true) × (numbers_below m rows ≡ true) → cond b (Some row.1) (number_of rows t) ≡ Some n → (numbers_below m rows ≡ true → number_of rows t ≡ Some n → nat_lt n m ≡ true) → nat_lt n m ≡ true
    by_test true p is later = subst (λ o. MatchOption o ⊥ (λ k. nat_lt k m ≡ true)) is p.0
    by_test false p is later = later p.1 is

keywords_test : numbers_below 51 reserved_rows ≡ true
keywords_test = refl

-- what the number of a keyword stands for
keyword_kind : (t : List ℕ) (n : ℕ) → number_of reserved_rows t ≡ Some n → reserved_kind n ≡ Reserved n
keyword_kind t n is = ap (λ b. cond b (Reserved n) (cond (nat_lt n 53) Truth Null)) (number_below 51 reserved_rows t n keywords_test is)

keyword_word : (t : List ℕ) (n : ℕ) → number_of reserved_rows t ≡ Some n → word_kind t ≡ Reserved n
keyword_word t n is = ap word_by (words_are t ∙ ap (λ o. or_number o (number_of literal_rows t)) is) ∙ keyword_kind t n is

differs : (t u : List ℕ) → t ≢ u → bytes_eq u t ≡ false
differs t u other = by_test (bytes_eq u t) refl
  where
    by_test : (b : Bool) → bytes_eq u t ≡ b → b ≡ false
    by_test true e = absurd (other (sym ((bytes_eq-Decides u t).0 e)))
    by_test false e = refl

abbrev literal_number : Bool → Bool → Bool → Option ℕ
literal_number true b c = Some 51
literal_number false true c = Some 52
literal_number false false true = Some 53
literal_number false false false = None

literal_by_tests : (a b c : Bool) → cond {A = Option ℕ} a (Some 51) (cond {A = Option ℕ} b (Some 52) (cond {A = Option ℕ} c (Some 53) None)) ≡ literal_number a b c
literal_by_tests true b c = refl
literal_by_tests false true c = refl
literal_by_tests false false true = refl
literal_by_tests false false false = refl

literals_are : (t : List ℕ) → number_of literal_rows t ≡ literal_number (bytes_eq (codes "true") t) (bytes_eq (codes "false") t) (bytes_eq (codes "null") t)
literals_are t = literal_by_tests (bytes_eq (codes "true") t) (bytes_eq (codes "false") t) (bytes_eq (codes "null") t)

no_literal : (a b c : Bool) → a ≡ false → b ≡ false → c ≡ false → literal_number a b c ≡ None
no_literal true b c p q r = absurd (false≢true (sym p))
no_literal false true c p q r = absurd (false≢true (sym q))
no_literal false false true p q r = absurd (false≢true (sym r))
no_literal false false false p q r = refl

identifier_word : (t : List ℕ) → number_of reserved_rows t ≡ None → t ≢ codes "true" → t ≢ codes "false" → t ≢ codes "null" → word_kind t ≡ Identifier
identifier_word t free not_true not_false not_null =
    ap word_by (words_are t ∙ ap (λ o. or_number o (number_of literal_rows t)) free ∙ literals_are t ∙ no_literal (bytes_eq (codes "true") t) (bytes_eq (codes "false") t) (bytes_eq (codes "null") t) (differs t (codes "true") not_true) (differs t (codes "false") not_false) (differs t (codes "null") not_null))

-- the sorts of a row of operators lead to no other class
abbrev apart : List (List ℕ × ℕ) → Bool
apart [] = true
apart (row ∷ rows) = eqb (class_of row.0) 7 && apart rows

apart_test : apart operator_rows ≡ true
unfolding sort_of
apart_test = refl

apart_at : (rows : List (List ℕ × ℕ)) (t : List ℕ) (n : ℕ) → apart rows ≡ true → number_of rows t ≡ Some n → class_of t ≡ 7
apart_at [] t n e is = absurd (cc)
apart_at (row ∷ rows) t n e is = by_test (bytes_eq row.0 t) refl (both_true (eqb (class_of row.0) 7) (apart rows) e) is (λ p q. apart_at rows t n p q)
  where
    by_test : (b : Bool) → bytes_eq row.0 t ≡ b → (eqb (class_of row.0) 7 ≡ true) × (apart rows ≡ true) → cond b (Some row.1) (number_of rows t) ≡ Some n → (apart rows ≡ true → number_of rows t ≡ Some n → class_of t ≡ 7) → class_of t ≡ 7
    by_test true e p is later = subst (λ u. class_of u ≡ 7) ((bytes_eq-Decides row.0 t).0 e) ((Decides-eqb (class_of row.0) 7).0 p.0)
    by_test false e p is later = later p.1 is

-- an operator is of no other class
pub operator_class : (t : List ℕ) (n : ℕ) → number_of operator_rows t ≡ Some n → class_of t ≡ 7
operator_class t n is = apart_at operator_rows t n apart_test is

formed : (i : ℕ) (t : List ℕ) → i < 7 → IsOf (get_or forms i nothing) (map sort_of t) → class_of t ≡ i
formed i t few is = class_of_form i (map sort_of t) few (are_sorts t) is

form_at : (i : ℕ) (t : List ℕ) → i < 7 → class_of t ≡ i → IsOf (get_or forms i nothing) (map sort_of t)
form_at i t few e = form_of_class i (map sort_of t) few (are_sorts t) e

-- the function says what a text is
pub kind_of_element : (k : Option TokenKind) (t : List ℕ) → IsElement k t → kind_of t ≡ Some k
kind_of_element None t is = classed 0 t None (formed 0 t (omega arith) is) refl
kind_of_element (Some Identifier) t (is, free, not_true, not_false, not_null) =
    classed 1 t (Some Identifier) (formed 1 t (omega arith) is) (ap (λ k. Some (Some k)) (identifier_word t free not_true not_false not_null))
kind_of_element (Some (Reserved n)) t (is, found) = classed 1 t (Some (Reserved n)) (formed 1 t (omega arith) is) (ap (λ k. Some (Some k)) (keyword_word t n found))
kind_of_element (Some Integer) t is = classed 2 t (Some Integer) (formed 2 t (omega arith) is) refl
kind_of_element (Some Floating) t is = classed 3 t (Some Floating) (formed 3 t (omega arith) is) refl
kind_of_element (Some Character) t is = classed 4 t (Some Character) (formed 4 t (omega arith) is) refl
kind_of_element (Some Text) t is = classed 5 t (Some Text) (formed 5 t (omega arith) is) refl
kind_of_element (Some TextBlock) t is = classed 6 t (Some TextBlock) (formed 6 t (omega arith) is) refl
kind_of_element (Some (Operator n)) t is = classed 7 t (Some (Operator n)) (operator_class t n is) (ap operator_by is)
kind_of_element (Some Truth) t (is, inl e) = classed 1 t (Some Truth) (formed 1 t (omega arith) is) (ap (λ k. Some (Some k)) (ap word_kind e))
kind_of_element (Some Truth) t (is, inr e) = classed 1 t (Some Truth) (formed 1 t (omega arith) is) (ap (λ k. Some (Some k)) (ap word_kind e))
kind_of_element (Some Null) t (is, e) = classed 1 t (Some Null) (formed 1 t (omega arith) is) (ap (λ k. Some (Some k)) (ap word_kind e))

-- the kinds of words
same_of : (t u : List ℕ) → bytes_eq u t ≡ true → t ≡ u
same_of t u e = sym ((bytes_eq-Decides u t).0 e)

other_of : (t u : List ℕ) → bytes_eq u t ≡ false → t ≢ u
other_of t u e = λ same. not_from_Decides (bytes_eq u t) (bytes_eq-Decides u t) e (sym same)

literal_by : (t : List ℕ) (a b c : Bool) → bytes_eq (codes "true") t ≡ a → bytes_eq (codes "false") t ≡ b → bytes_eq (codes "null") t ≡ c → number_of reserved_rows t ≡ None → Is word t
    → IsToken (word_by (literal_number a b c)) t
literal_by t true b c p q r free is = (is, inl (same_of t (codes "true") p))
literal_by t false true c p q r free is = (is, inr (same_of t (codes "false") q))
literal_by t false false true p q r free is = (is, same_of t (codes "null") r)
literal_by t false false false p q r free is = (is, free, other_of t (codes "true") p, other_of t (codes "false") q, other_of t (codes "null") r)

word_by_number : (t : List ℕ) (o : Option ℕ) → number_of reserved_rows t ≡ o → Is word t → IsToken (word_by (or_number o (number_of literal_rows t))) t
word_by_number t (Some n) e is = subst (λ k. IsToken k t) (sym (keyword_kind t n e)) (is, e)
word_by_number t None e is =
    subst (λ o. IsToken (word_by o) t) (sym (literals_are t)) (literal_by t (bytes_eq (codes "true") t) (bytes_eq (codes "false") t) (bytes_eq (codes "null") t) refl refl refl e is)

word_is : (t : List ℕ) → Is word t → IsToken (word_kind t) t
word_is t is =
    subst (λ o. IsToken (word_by o) t) (sym (words_are t)) (word_by_number t (number_of reserved_rows t) refl is)

operator_is : (t : List ℕ) (n : Option ℕ) (k : Option TokenKind) → number_of operator_rows t ≡ n → operator_by n ≡ Some k → IsElement k t
operator_is t (Some n) k e is = subst (λ o. MatchOption o ⊥ (λ x. IsElement x t)) is e
operator_is t None k e is = absurd (cc)

kind_is : (i : ℕ) (t : List ℕ) (k : Option TokenKind) → class_of t ≡ i → kind_by i t ≡ Some k → IsElement k t
kind_is zero t k e is = subst (λ o. MatchOption o ⊥ (λ x. IsElement x t)) is (form_at 0 t (omega arith) e)
kind_is (suc zero) t k e is = subst (λ o. MatchOption o ⊥ (λ x. IsElement x t)) is (word_is t (form_at 1 t (omega arith) e))
kind_is (suc (suc zero)) t k e is = subst (λ o. MatchOption o ⊥ (λ x. IsElement x t)) is (form_at 2 t (omega arith) e)
kind_is (suc (suc (suc zero))) t k e is = subst (λ o. MatchOption o ⊥ (λ x. IsElement x t)) is (form_at 3 t (omega arith) e)
kind_is (suc (suc (suc (suc zero)))) t k e is = subst (λ o. MatchOption o ⊥ (λ x. IsElement x t)) is (form_at 4 t (omega arith) e)
kind_is (suc (suc (suc (suc (suc zero))))) t k e is = subst (λ o. MatchOption o ⊥ (λ x. IsElement x t)) is (form_at 5 t (omega arith) e)
kind_is (suc (suc (suc (suc (suc (suc zero)))))) t k e is = subst (λ o. MatchOption o ⊥ (λ x. IsElement x t)) is (form_at 6 t (omega arith) e)
kind_is (suc (suc (suc (suc (suc (suc (suc n))))))) t k e is = operator_is t (number_of operator_rows t) k refl is

pub element_of_kind : (k : Option TokenKind) (t : List ℕ) → kind_of t ≡ Some k → IsElement k t
element_of_kind k t e = kind_is (class_of t) t k refl e

-- the empty text is nothing
pub nothing_empty : kind_of [] ≡ None
nothing_empty = refl

pub nothing_sub : kind_of (26 ∷ []) ≡ None
unfolding sort_of
nothing_sub = refl
