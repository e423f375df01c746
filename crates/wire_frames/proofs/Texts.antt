-- Texts of which none stands twice, as a set of them shows.
use Rattle.std.proofs.Common.{◌≡◌, ℕ, suc, ◌<◌, Bool, true, false, cond, not, ◌&&◌, eqb, List, [], ◌∷◌, length, map, Bor, Ordering, refl, sym, ap, ◌∙◌, arith}
use lib.Dec.{eqb-suc-suc}
use Rattle.std.specs.List.{list_any}
use Rattle.std.specs.Str.{bytes_eq}
use Rattle.std.proofs.lemmas.List.{length-map}
use Rattle.std.specs.Cmp.{IsTotalOrder}
use Rattle.std.specs.Cmp.Lexicographic.{slice_cmp}
use Rattle.std.specs.Ordering.{nat_cmp, eq_by_cmp}
use Rattle.std.specs.Set.{is_member, unique_keys, distinct_count}
use Rattle.std.specs.BTreeSet.{BTreeSet, IsFromIterResult, btree_set_len}
use Rattle.std.proofs.lemmas.Bool.{ne_eqb}
use Rattle.std.proofs.lemmas.Cmp.{on_total, nat_list_cmp_total}
use Rattle.std.proofs.lemmas.Map.Made.{distinct_count-le}
use Rattle.std.proofs.lemmas.Map.Text.{is_eq-slice_cmp}
use Rattle.std.proofs.lemmas.Map.Views.{btree_set_len-from_list}
use Rattle.wire_frames.specs.Readings.{are_distinct}

-- ---- no text twice, as a set of them shows

-- the order of texts behind references
abbrev pub text_order : Bor (List ℕ) → Bor (List ℕ) → Ordering
text_order x y = slice_cmp nat_cmp x.now y.now

text_order-total : IsTotalOrder text_order
text_order-total = on_total (λ (x : Bor (List ℕ)). x.now) nat_list_cmp_total

is_member-texts : (xs : List (Bor (List ℕ))) (x : Bor (List ℕ)) → is_member (eq_by_cmp text_order) xs x ≡ list_any (bytes_eq x.now) (map (λ y. y.now) xs)
is_member-texts [] x = refl
is_member-texts (y ∷ xs) x = rw (is_eq-slice_cmp x.now y.now, is_member-texts xs x) refl

eqb-below : (m n : ℕ) → m < n → eqb m n ≡ false
eqb-below m n lt = ne_eqb m n (λ e. absurd (omega arith))

both_count : (b : Bool) (x : Bor (List ℕ)) (xs : List (Bor (List ℕ))) (rest : Bool) → eqb (distinct_count (eq_by_cmp text_order) xs) (length xs) ≡ rest
    → eqb (length (cond b (unique_keys (eq_by_cmp text_order) xs) (x ∷ unique_keys (eq_by_cmp text_order) xs))) (suc (length xs)) ≡ (not b && rest)
both_count true x xs rest e = eqb-below (distinct_count (eq_by_cmp text_order) xs) (suc (length xs)) (omega (arith, distinct_count-le (eq_by_cmp text_order) xs))
both_count false x xs rest e = eqb-suc-suc (distinct_count (eq_by_cmp text_order) xs) (length xs) ∙ e

pub count-distinct : (xs : List (Bor (List ℕ))) → eqb (distinct_count (eq_by_cmp text_order) xs) (length xs) ≡ are_distinct (map (λ y. y.now) xs)
count-distinct [] = refl
count-distinct (x ∷ xs) = rw (← is_member-texts xs x) (both_count (is_member (eq_by_cmp text_order) xs x) x xs _ (count-distinct xs))

pub set_shows_distinct : (set : BTreeSet (Bor (List ℕ))) (xs : List (Bor (List ℕ))) (texts : List (List ℕ)) (count : ℕ) → count ≡ btree_set_len set → IsFromIterResult text_order xs set → map (λ y. y.now) xs ≡ texts → eqb count (length texts) ≡ are_distinct texts
set_shows_distinct set xs texts count counted made shown =
    let len : btree_set_len set ≡ distinct_count (eq_by_cmp text_order) xs = btree_set_len-from_list text_order-total xs set made in
    let same : length texts ≡ length xs = ap length (sym shown) ∙ length-map xs (λ (y : Bor (List ℕ)). y.now) in
    rw (counted, len, same) (count-distinct xs ∙ ap are_distinct shown)
