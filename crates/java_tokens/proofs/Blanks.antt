-- A blank separates by itself: no token or separator that begins with one is longer.
use Rattle.std.proofs.Common.{◌≡◌, ◌⊎◌, inl, inr, ◌&&◌, eqb, ℕ, zero, suc, ◌<◌, ◌≤◌, Bool, true, cond, List, [], ◌∷◌, ◌++◌, length, take, drop, map, get_or, codes, Option, None, Some, bytes_eq, refl, sym, ap, ◌∙◌, subst, arith}
use Rattle.std.proofs.lemmas.Bool.{cases_lt}
use Rattle.std.proofs.lemmas.Bool.Decides.{Decides-eqb}
use Rattle.std.proofs.lemmas.List.{take-append-drop}
use Rattle.std.proofs.lemmas.Slice.Eq.{bytes_eq-Decides}
use Rattle.std.proofs.lemmas.Str.{chars_from_encodes}
use Rattle.std.specs.Str.{chars, IsUtf8}
use Rattle.case_table.specs.Rows.{number_of}
use Rattle.java_tokens.specs.Words.{operator_rows}
use Rattle.java_tokens.specs.Sorts.{sort_of}
use Rattle.java_tokens.specs.Tokens.{Begins, IsNext, is_doc}
use Rattle.java_tokens.specs.Table.{after, class_at, run, class_of, kind_by, kind_of, operator_by, IsBest, IsFront}
use Rattle.java_tokens.proofs.TableLemmas.{both_true, run_stuck}
use Rattle.java_tokens.proofs.TextKinds.{sort_less, are_sorts}
use Rattle.java_tokens.proofs.NextFronts.{next_of_best}
use Rattle.java_tokens.proofs.Ascii.{encodes_ascii, chars_taken}

blank_kind : kind_of (32 ∷ []) ≡ Some None
unfolding sort_of
blank_kind = refl

blank_state : after 0 (sort_of 32) ≡ 10
unfolding sort_of
blank_state = refl

-- nothing goes on behind it
abbrev ends : ℕ → Bool
ends zero = true
ends (suc k) = eqb (after 10 k) 4 && ends k

ends_test : ends 26 ≡ true
ends_test = refl

ends_at : (n k : ℕ) → ends n ≡ true → k < n → after 10 k ≡ 4
ends_at zero k e h = absurd (omega (arith, h))
ends_at (suc n) k e h = by_place (both_true (eqb (after 10 n) 4) (ends n) e) (λ p. ends_at n k p) (cases_lt k n)
  where
    by_place : (eqb (after 10 n) 4 ≡ true) × (ends n ≡ true) → (ends n ≡ true → k < n → after 10 k ≡ 4) → (k < n) ⊎ (n ≤ k) → after 10 k ≡ 4
    by_place p later (inl less) = later p.1 less
    by_place p later (inr more) =
        let same_place : n ≡ k = omega (arith, h, more) in
        subst (λ m. after 10 m ≡ 4) same_place ((Decides-eqb (after 10 n) 4).0 p.0)

longer_class : (c : ℕ) (t : List ℕ) → class_of (32 ∷ c ∷ t) ≡ 7
longer_class c t =
    ap (λ s. class_at (run (after s (sort_of c)) (map sort_of t))) blank_state ∙ ap (λ s. class_at (run s (map sort_of t))) (ends_at 26 (sort_of c) ends_test (sort_less c))
    ∙ ap class_at (run_stuck (map sort_of t) (are_sorts t))

no_operator : (c : ℕ) (t : List ℕ) → number_of operator_rows (32 ∷ c ∷ t) ≡ None
no_operator c t = refl

longer_kind : (c : ℕ) (t : List ℕ) → kind_of (32 ∷ c ∷ t) ≡ None
longer_kind c t = ap (λ n. kind_by n (32 ∷ c ∷ t)) (longer_class c t) ∙ ap operator_by (no_operator c t)

blank_best : (cs : List ℕ) → IsBest (32 ∷ cs) (length (32 ∷ cs)) 1 None
blank_best cs = record { within = omega arith; found = blank_kind; past = λ j more less. past cs j more less }
  where
    past : (xs : List ℕ) (j : ℕ) → 1 < j → j ≤ length (32 ∷ xs) → kind_of (take j (32 ∷ xs)) ≡ None
    past xs zero more less = absurd (omega (arith, more))
    past xs (suc zero) more less = absurd (omega (arith, more))
    past [] (suc (suc j)) more less = absurd (omega (arith, less))
    past (x ∷ xs) (suc (suc j)) more less = longer_kind x (take j xs)

no_block : (cs : List ℕ) → Begins (codes "\"\"\"") (32 ∷ cs) → ⊥
no_block cs begins =
    let first : 32 ≡ 34 = ap (λ xs. get_or xs 0 0) begins.1 in
    omega (arith, first)

blank_next : (cs : List ℕ) → IsNext (32 ∷ cs) (32 ∷ []) cs None
blank_next cs = next_of_best (32 ∷ cs) 1 None (blank_best cs) (λ _. refl) (λ begins. absurd (no_block cs begins))

-- a text that begins with a blank has it at its front
pub blank_front : (rest : List ℕ) → IsUtf8 rest → take 1 rest ≡ 32 ∷ [] → IsFront (chars rest) 1 None
blank_front rest utf8 is =
    let first : take 1 (chars rest) ≡ 32 ∷ [] = chars_taken 1 (32 ∷ []) rest refl utf8 is in
    let whole : chars rest ≡ 32 ∷ drop 1 (chars rest) = sym (take-append-drop 1 (chars rest)) ∙ ap (λ x. x ++ drop 1 (chars rest)) first in
    (32 ∷ [], drop 1 (chars rest), subst (λ t. IsNext t (32 ∷ []) (drop 1 (chars rest)) None) (sym whole) (blank_next (drop 1 (chars rest))), sym (ap length (encodes_ascii (32 ∷ []) refl)))

-- it is no doc comment
pub blank_doc : (text : List ℕ) (doc : Option (List ℕ)) → IsUtf8 text → text ≡ 32 ∷ [] → doc ≡ cond (is_doc (chars text)) (Some text) doc
blank_doc text doc utf8 is = ap (λ cs. cond (is_doc cs) (Some text) doc) (chars_from_encodes (32 ∷ []) text utf8 (encodes_ascii (32 ∷ []) refl ∙ sym is))

-- the bytes that it has
pub blank_taken : (rest : List ℕ) (b : Bool) → b ≡ true → b ≡ bytes_eq (take 1 rest) (32 ∷ []) → take 1 rest ≡ 32 ∷ []
blank_taken rest b yes_it is = (bytes_eq-Decides (take 1 rest) (32 ∷ [])).0 (sym is ∙ yes_it)
