-- The sorts of characters as the code finds them.
use Rattle.std.proofs.Common.{◌≡◌, ◌⊎◌, inl, inr, ◌&&◌, ◌||◌, nat_lt, eqb, ℕ, zero, suc, ◌<◌, ◌≤◌, Bool, true, false, cond, List, [], ◌∷◌, get_or, refl, sym, ap, ◌∙◌, subst, arith}
use Rattle.std.proofs.lemmas.Bool.{false≢true, cases_lt, ltb-true}
use Rattle.std.proofs.lemmas.Bool.Decides.{Decides-eqb}
use Rattle.unicode_ident.specs.Ident.{is_xid_start, is_xid_continue}
use Rattle.java_tokens.specs.declared.automaton.TheConstants.{ASCII_SORTS}
use Rattle.java_tokens.specs.Forms.{among}
use Rattle.java_tokens.specs.Sorts.{sort_of, sort_in, sort_rows, class_sort}
use Rattle.java_tokens.proofs.TableLemmas.{both_true, all_below, below_at}

abbrev ascii_fits : ℕ → Bool
ascii_fits zero = true
ascii_fits (suc n) = eqb (get_or ASCII_SORTS n 0) (sort_in sort_rows n) && ascii_fits n

ascii_test : ascii_fits 128 ≡ true
ascii_test = refl

ascii_at : (n c : ℕ) → ascii_fits n ≡ true → c < n → get_or ASCII_SORTS c 0 ≡ sort_in sort_rows c
ascii_at zero c e h = absurd (omega (arith, h))
ascii_at (suc n) c e h = by_place (both_true (eqb (get_or ASCII_SORTS n 0) (sort_in sort_rows n)) (ascii_fits n) e) (λ p. ascii_at n c p) (cases_lt c n)
  where
    by_place : (eqb (get_or ASCII_SORTS n 0) (sort_in sort_rows n) ≡ true) × (ascii_fits n ≡ true) → (ascii_fits n ≡ true → c < n → get_or ASCII_SORTS c 0 ≡ sort_in sort_rows c) → (c < n) ⊎ (n ≤ c) → get_or ASCII_SORTS c 0 ≡ sort_in sort_rows c
    by_place p later (inl less) = later p.1 less
    by_place p later (inr more) =
        let here : n ≡ c = omega (arith, h, more) in
        subst (λ m. get_or ASCII_SORTS m 0 ≡ sort_in sort_rows m) here ((Decides-eqb (get_or ASCII_SORTS n 0) (sort_in sort_rows n)).0 p.0)

pub ascii_sort : (c : ℕ) → c < 128 → get_or ASCII_SORTS c 0 ≡ sort_of c
unfolding sort_of
ascii_sort c h = ascii_at 128 c ascii_test h

sorts_test : all_below 26 ASCII_SORTS ≡ true
sorts_test = refl

pub ascii_less : (c : ℕ) → get_or ASCII_SORTS c 0 < 26
ascii_less c = below_at 26 ASCII_SORTS c (omega arith) sorts_test

-- all characters of the rows are ASCII
abbrev rows_low : List (List ℕ × ℕ) → Bool
rows_low [] = true
rows_low (row ∷ rows) = all_below 128 row.0 && rows_low rows

or_false : (a b : Bool) → a ≡ false → b ≡ false → (a || b) ≡ false
or_false true b p q = absurd (false≢true (sym p))
or_false false b p q = q

differs : (x c : ℕ) → x < 128 → 128 ≤ c → eqb x c ≡ false
differs x c low high = by_test (eqb x c) refl
  where
    by_test : (b : Bool) → eqb x c ≡ b → b ≡ false
    by_test true is = absurd (omega (arith, high, low, (Decides-eqb x c).0 is))
    by_test false is = refl

among_low : (xs : List ℕ) (c : ℕ) → all_below 128 xs ≡ true → 128 ≤ c → among xs c ≡ false
among_low [] c e h = refl
among_low (x ∷ xs) c e h =
    let both = both_true (nat_lt x 128) (all_below 128 xs) e in
    or_false (eqb x c) (among xs c) (differs x c (ltb-true x 128 both.0) h) (among_low xs c both.1 h)

rows_above : (rows : List (List ℕ × ℕ)) (c : ℕ) → rows_low rows ≡ true → 128 ≤ c → sort_in rows c ≡ class_sort c
rows_above [] c e h = refl
rows_above (row ∷ rows) c e h =
    let both = both_true (all_below 128 row.0) (rows_low rows) e in
    ap (λ b. cond b row.1 (sort_in rows c)) (among_low row.0 c both.0 h) ∙ rows_above rows c both.1 h

pub other_sort : (c : ℕ) → 128 ≤ c → sort_of c ≡ class_sort c
unfolding sort_of
other_sort c h = rows_above sort_rows c refl h

pub letter_sort : (c : ℕ) → 128 ≤ c → is_xid_start c ≡ true → 12 ≡ sort_of c
letter_sort c h e = sym (other_sort c h ∙ ap (λ b. cond b 12 (cond (is_xid_continue c) 13 24)) e)

pub part_sort : (c : ℕ) → 128 ≤ c → is_xid_start c ≡ false → is_xid_continue c ≡ true → 13 ≡ sort_of c
part_sort c h e f = sym (other_sort c h ∙ ap (λ b. cond b 12 (cond (is_xid_continue c) 13 24)) e ∙ ap (λ b. cond b 13 24) f)

pub no_sort : (c : ℕ) → 128 ≤ c → is_xid_start c ≡ false → is_xid_continue c ≡ false → 24 ≡ sort_of c
no_sort c h e f = sym (other_sort c h ∙ ap (λ b. cond b 12 (cond (is_xid_continue c) 13 24)) e ∙ ap (λ b. cond b 13 24) f)
