-- A map in memory whose keys are texts, as the finite map from their bytes.
use Rattle.std.proofs.Common.{◌≡◌, ℕ, Bool, true, false, cond, T, List, [], ◌∷◌, map, Some, String, string_bytes, ◌&&◌, refl, sym, ap, ◌∙◌, subst}
use Rattle.std.specs.BTreeMap as tree
use Rattle.std.specs.BTreeMap.{BTreeMap, is_at, get_by_text, UpdatesBy}
use Rattle.std.specs.Map.{lookup, keys_of}
use Rattle.std.specs.String.{string_cmp}
use Rattle.std.specs.Ordering.{nat_cmp, is_eq, is_lt, eq_by_cmp}
use Rattle.std.specs.Cmp.Lexicographic.{slice_cmp, nat_list_cmp_total, nat_list_eq_equiv}
use Rattle.std.specs.List.{AllByRecursion}
use Rattle.std.specs.List.Sorted.{IsStrictlySortedBy}
use Rattle.std.specs.FinMap as fin
use Rattle.std.specs.FinMap.{FinMap, find, from_entries, is_sorted, get-from_entries, get-insert, same_map, nat_cmp-IsAntisymmetric, slice_cmp-IsAntisymmetric}
use Rattle.std.specs.FinMap.Entries.{same_entries, below_all}
use Rattle.std.specs.declared.alloc.Global.{Global}
use Rattle.std.specs.declared.cmp.Ordering.TheVariants.{Less}
use Rattle.std.proofs.lemmas.Map.Text.{btree_map_updates_text, is_eq-slice_cmp}
use Rattle.project_config.specs.Options.{shown_entry}

-- names that compare alike are one
pub exact_names : fin.IsAntisymmetric (slice_cmp nat_cmp)
exact_names = slice_cmp-IsAntisymmetric nat_cmp-IsAntisymmetric

both : (a b : Bool) → T a → T b → T (a && b)
both true b p q = q
both false b p q = p

module _ {X : Type 0} where
  abbrev pub shown : BTreeMap (String Global) X → FinMap (slice_cmp nat_cmp) X
  shown m = from_entries (map shown_entry m.entries)

  -- maps that answer alike are one
  pub same_shown : (a b : FinMap (slice_cmp nat_cmp) X) → ((q : List ℕ) → fin.get a q ≡ fin.get b q) → a ≡ b
  same_shown a b is = same_map nat_list_cmp_total exact_names a b is

  find_shown : (es : List (String Global × X)) (q : List ℕ) → find (slice_cmp nat_cmp) q (map shown_entry es) ≡ lookup (is_at (λ k. slice_cmp nat_cmp q (string_bytes k))) es
  find_shown [] q = refl
  find_shown (e ∷ es) q =
      elim (is_eq (slice_cmp nat_cmp q (string_bytes e.0))) as (λ b. cond b (Some e.1) (find (slice_cmp nat_cmp) q (map shown_entry es)) ≡ cond b (Some e.1) (lookup (is_at (λ k. slice_cmp nat_cmp q (string_bytes k))) es)) [ true ↦ refl | false ↦ find_shown es q ]

  -- what it has under a name
  pub get-shown : (m : BTreeMap (String Global) X) (q : List ℕ) → fin.get (shown m) q ≡ get_by_text m q
  get-shown m q = get-from_entries nat_list_cmp_total (map shown_entry m.entries) q ∙ find_shown m.entries q

  -- after an insertion
  pub shown-insert : (m n : BTreeMap (String Global) X) (name : List ℕ) (v : X) → UpdatesBy string_cmp (λ k. slice_cmp nat_cmp name (string_bytes k)) m n (Some v) → shown n ≡ fin.insert (shown m) name v
  shown-insert m n name v u = same_shown _ _ (λ q.
      get-shown n q ∙ btree_map_updates_text name m n (Some v) u q ∙ ap (λ b. cond b (Some v) (get_by_text m q)) (nat_list_eq_equiv.symm name q ∙ sym (is_eq-slice_cmp q name))
      ∙ ap (cond (eq_by_cmp (slice_cmp nat_cmp) q name) (Some v)) (sym (get-shown m q)) ∙ sym (get-insert nat_list_cmp_total (shown m) name v q))

  less : (x : List ℕ) (es : List (String Global × X)) → AllByRecursion (λ y. slice_cmp nat_cmp x (string_bytes y) ≡ Less) (keys_of es) → T (below_all (slice_cmp nat_cmp) x (map shown_entry es))
  less x [] all = tt
  less x (e ∷ es) all = both _ _ (subst (λ r. T (is_lt r)) (sym all.0) tt) (less x es all.1)

  sorted_shown : (es : List (String Global × X)) → IsStrictlySortedBy string_cmp (keys_of es) → T (is_sorted (slice_cmp nat_cmp) (map shown_entry es))
  unfolding IsStrictlySortedBy
  sorted_shown [] s = tt
  sorted_shown (e ∷ es) s = both _ _ (less (string_bytes e.0) es s.0) (sorted_shown es s.1)

  -- the entries in order
  pub entries-shown : (m : BTreeMap (String Global) X) → tree.IsOrdered string_cmp m → fin.entries (shown m) ≡ map shown_entry m.entries
  entries-shown m s =
      let es : List (List ℕ × X) = map shown_entry m.entries in
      same_entries (slice_cmp nat_cmp) nat_list_cmp_total exact_names (fin.entries (shown m)) es (fin.entries_sorted (shown m)) (sorted_shown m.entries s)
      (λ q. sym (fin.get-entries (shown m) q) ∙ get-from_entries nat_list_cmp_total es q)
