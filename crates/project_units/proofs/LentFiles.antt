-- The files of a map that borrows their bytes.
use Rattle.std.proofs.Common.{◌≡◌, ℕ, Bool, true, false, cond, T, List, [], ◌∷◌, map, Some, Option, option_map, String, string_bytes, ◌&&◌, refl, sym, ap, ◌∙◌, subst}
use Rattle.std.specs.BTreeMap as tree
use Rattle.std.specs.BTreeMap.{BTreeMap, is_at, get_by_text, UpdatesBy}
use Rattle.std.specs.Map.{lookup, keys_of}
use Rattle.std.specs.Str.{bytes_eq}
use Rattle.std.specs.String.{string_cmp}
use Rattle.std.specs.Ordering.{nat_cmp, is_eq, is_lt}
use Rattle.std.specs.Cmp.Lexicographic.{slice_cmp, nat_list_cmp_total}
use Rattle.std.specs.List.{AllByRecursion}
use Rattle.std.specs.List.Sorted.{IsStrictlySortedBy}
use Rattle.std.specs.Borrow.{Bor}
use Rattle.std.specs.FinMap as fin
use Rattle.std.specs.FinMap.{find, is_sorted, get-from_entries}
use Rattle.std.specs.FinMap.Entries.{same_entries, below_all}
use Rattle.std.specs.declared.alloc.Global.{Global}
use Rattle.std.specs.declared.cmp.Ordering.TheVariants.{Less}
use Rattle.std.proofs.lemmas.Map.Text.{btree_map_updates_text}
use Rattle.apt_outside.specs.Files.{file_at}
use Rattle.apt_outside.proofs.HeldLemmas.{exact_paths, same_files, file_at-insert}
use Rattle.project_units.specs.Held.{shown_lent, files_lent}

abbrev bytes_in : Option (Bor (List ℕ)) → Option (List ℕ)
bytes_in found = option_map (λ (lent : Bor (List ℕ)). lent.now) found

find_lent : (es : List (String Global × Bor (List ℕ))) (q : List ℕ) → find (slice_cmp nat_cmp) q (map shown_lent es) ≡ bytes_in (lookup (is_at (λ k. slice_cmp nat_cmp q (string_bytes k))) es)
find_lent [] q = refl
find_lent (e ∷ es) q = elim (is_eq (slice_cmp nat_cmp q (string_bytes e.0))) as (λ b. cond b (Some e.1.now) (find (slice_cmp nat_cmp) q (map shown_lent es)) ≡ bytes_in (cond b (Some e.1) (lookup (is_at (λ k. slice_cmp nat_cmp q (string_bytes k))) es))) [ true ↦ refl | false ↦ find_lent es q ]

-- what they have at a path
file_at-lent : (m : BTreeMap (String Global) (Bor (List ℕ))) (q : List ℕ) → file_at (files_lent m) q ≡ bytes_in (get_by_text m q)
file_at-lent m q = get-from_entries nat_list_cmp_total (map shown_lent m.entries) q ∙ find_lent m.entries q

bytes_in-cond : (b : Bool) (w o : Option (Bor (List ℕ))) → bytes_in (cond b w o) ≡ cond b (bytes_in w) (bytes_in o)
bytes_in-cond true w o = refl
bytes_in-cond false w o = refl

-- a file more
pub files_lent-insert : (m n : BTreeMap (String Global) (Bor (List ℕ))) (path : List ℕ) (lent : Bor (List ℕ)) → UpdatesBy string_cmp (λ k. slice_cmp nat_cmp path (string_bytes k)) m n (Some lent) → files_lent n ≡ fin.insert (files_lent m) path lent.now
files_lent-insert m n path lent updates = same_files _ _ (λ q.
    file_at-lent n q ∙ ap bytes_in (btree_map_updates_text path m n (Some lent) updates q) ∙ bytes_in-cond (bytes_eq path q) (Some lent) (get_by_text m q)
    ∙ ap (cond (bytes_eq path q) (Some lent.now)) (sym (file_at-lent m q)) ∙ sym (file_at-insert (files_lent m) path lent.now q))

both : (a b : Bool) → T a → T b → T (a && b)
both true b p q = q
both false b p q = p

less : (x : List ℕ) (es : List (String Global × Bor (List ℕ))) → AllByRecursion (λ y. slice_cmp nat_cmp x (string_bytes y) ≡ Less) (keys_of es) → T (below_all (slice_cmp nat_cmp) x (map shown_lent es))
less x [] all = tt
less x (e ∷ es) all = both _ _ (subst (λ r. T (is_lt r)) (sym all.0) tt) (less x es all.1)

sorted_shown : (es : List (String Global × Bor (List ℕ))) → IsStrictlySortedBy string_cmp (keys_of es) → T (is_sorted (slice_cmp nat_cmp) (map shown_lent es))
unfolding IsStrictlySortedBy
sorted_shown [] s = tt
sorted_shown (e ∷ es) s = both _ _ (less (string_bytes e.0) es s.0) (sorted_shown es s.1)

-- the files in the order of their paths
pub entries-files_lent : (m : BTreeMap (String Global) (Bor (List ℕ))) → tree.IsOrdered string_cmp m → fin.entries (files_lent m) ≡ map shown_lent m.entries
entries-files_lent m s =
    let es : List (List ℕ × List ℕ) = map shown_lent m.entries in
    same_entries (slice_cmp nat_cmp) nat_list_cmp_total exact_paths (fin.entries (files_lent m)) es (fin.entries_sorted (files_lent m)) (sorted_shown m.entries s)
    (λ q. sym (fin.get-entries (files_lent m) q) ∙ get-from_entries nat_list_cmp_total es q)
