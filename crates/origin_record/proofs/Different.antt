-- Numbers and texts of which none stands twice, as a set of them shows.
use Rattle.std.proofs.Common.{◌≡◌, ℕ, suc, ◌<◌, Bool, true, false, cond, not, ◌&&◌, eqb, List, [], ◌∷◌, length, map, Bor, Ordering, Less, Equal, Greater, refl, sym, ap, ◌∙◌, arith}
use lib.Dec.{eqb-suc-suc}
use Rattle.std.specs.List.{list_any}
use Rattle.std.specs.Cmp.{ranks}
use Rattle.std.specs.Ordering.{MatchOrdering, is_eq, nat_cmp, eq_by_cmp}
use Rattle.std.specs.Set.{is_member, unique_keys, distinct_count}
use Rattle.std.specs.BTreeSet.{BTreeSet, IsFromIterResult, btree_set_len}
use Rattle.std.proofs.lemmas.Bool.{ne_eqb, eq-eqb}
use Rattle.std.proofs.lemmas.Cmp.{nat_cmp_total}
use Rattle.std.proofs.lemmas.Map.Made.{distinct_count-le}
use Rattle.std.proofs.lemmas.Map.Views.{btree_set_len-from_list}
use Rattle.std.proofs.lemmas.List.{length-map}
use Rattle.wire_frames.specs.Readings.{are_distinct}
use Rattle.wire_frames.proofs.Texts.{text_order, set_shows_distinct}
use Rattle.origin_record.specs.Conditions.{lent, are_different}

is_eq-nat_cmp : (x y : ℕ) (r : Ordering) → MatchOrdering r (x < y) (x ≡ y) (y < x) → is_eq r ≡ eqb x y
is_eq-nat_cmp x y Less lt = sym (ne_eqb x y (λ e. absurd (omega (arith, e, lt))))
is_eq-nat_cmp x y Equal e = sym (eq-eqb x y e)
is_eq-nat_cmp x y Greater gt = sym (ne_eqb x y (λ e. absurd (omega (arith, e, gt))))

is_member-numbers : (xs : List ℕ) (x : ℕ) → is_member (eq_by_cmp nat_cmp) xs x ≡ list_any (λ y. eqb x y) xs
is_member-numbers [] x = refl
is_member-numbers (y ∷ xs) x = rw (is_eq-nat_cmp x y (nat_cmp x y) (ranks x y), is_member-numbers xs x) refl

eqb-below : (m n : ℕ) → m < n → eqb m n ≡ false
eqb-below m n lt = ne_eqb m n (λ e. absurd (omega arith))

both_count : (b : Bool) (x : ℕ) (xs : List ℕ) (rest : Bool) → eqb (distinct_count (eq_by_cmp nat_cmp) xs) (length xs) ≡ rest
    → eqb (length (cond b (unique_keys (eq_by_cmp nat_cmp) xs) (x ∷ unique_keys (eq_by_cmp nat_cmp) xs))) (suc (length xs)) ≡ (not b && rest)
both_count true x xs rest e = eqb-below (distinct_count (eq_by_cmp nat_cmp) xs) (suc (length xs)) (omega (arith, distinct_count-le (eq_by_cmp nat_cmp) xs))
both_count false x xs rest e = eqb-suc-suc (distinct_count (eq_by_cmp nat_cmp) xs) (length xs) ∙ e

pub count-different : (xs : List ℕ) → eqb (distinct_count (eq_by_cmp nat_cmp) xs) (length xs) ≡ are_different xs
unfolding are_different
count-different [] = refl
count-different (x ∷ xs) = rw (← is_member-numbers xs x) (both_count (is_member (eq_by_cmp nat_cmp) xs x) x xs _ (count-different xs))

pub set_shows_different : (set : BTreeSet ℕ) (xs numbers : List ℕ) (count : ℕ) → count ≡ btree_set_len set → IsFromIterResult nat_cmp xs set → xs ≡ numbers → eqb count (length numbers) ≡ are_different numbers
set_shows_different set xs numbers count counted made shown =
    let len : btree_set_len set ≡ distinct_count (eq_by_cmp nat_cmp) xs = btree_set_len-from_list nat_cmp_total xs set made in
    let same : length numbers ≡ length xs = ap length (sym shown) in
    rw (counted, len, same) (count-different xs ∙ ap are_different shown)

-- the same of texts that are lent
pub set_shows_paths : (set : BTreeSet (Bor (List ℕ))) (xs paths : List (Bor (List ℕ))) (count : ℕ) → count ≡ btree_set_len set → IsFromIterResult text_order xs set → xs ≡ paths → eqb count (length paths) ≡ are_distinct (lent paths)
set_shows_paths set xs paths count counted made shown =
    ap (eqb count) (sym (length-map paths (λ (t : Bor (List ℕ)). t.now))) ∙ set_shows_distinct set xs (lent paths) count counted made (ap lent shown)
