-- A map in memory whose keys are texts, as the finite map from their bytes.
use Rattle.std.proofs.Common.{◌≡◌, ℕ, Bool, true, false, cond, T, List, [], ◌∷◌, ◌++◌, map, Some, None, Option, String, string_bytes, ◌&&◌, refl, sym, ap, ◌∙◌, subst}
use Rattle.std.specs.BTreeMap as tree
use Rattle.std.specs.BTreeMap.{BTreeMap, is_at, get_by_text, UpdatesBy}
use Rattle.std.specs.Map.{lookup, keys_of, values_of, update_all}
use Rattle.std.specs.Map.Iter.{deref_pair}
use Rattle.std.specs.String.{string_cmp}
use Rattle.std.specs.Ordering.{nat_cmp, is_eq, is_lt, eq_by_cmp}
use Rattle.std.specs.Cmp.{eq_by_cmp_equiv}
use Rattle.std.specs.Cmp.Lexicographic.{slice_cmp, nat_list_cmp_total, nat_list_eq_equiv}
use Rattle.std.specs.List.{AllByRecursion}
use Rattle.std.specs.List.Sorted.{IsStrictlySortedBy}
use Rattle.std.specs.FinMap as fin
use Rattle.std.specs.FinMap.{FinMap, find, from_entries, is_sorted, get-from_entries, get-insert, same_map}
use Rattle.std.specs.FinMap.Entries.{same_entries, below_all}
use Rattle.std.specs.declared.alloc.Global.{Global}
use Rattle.std.specs.declared.cmp.Ordering.TheVariants.{Less}
use Rattle.std.proofs.lemmas.Map.Text.{btree_map_updates_text, is_eq-slice_cmp}
use Rattle.std.proofs.lemmas.Map.Keys.{IsDistinct-from_sorted}
use Rattle.std.proofs.lemmas.Map.{update_all_push}
use Rattle.std.proofs.lemmas.Map.Made.{update_all_none}
use denote.Ref.{Bor}
use Rattle.apt_base.proofs.NameSets.{exact_names}
use Rattle.name_index.specs.ShownMaps.{shown_entry}

both : (a b : Bool) → T a → T b → T (a && b)
both true b p q = q
both false b p q = p

module _ {X : Type 0} where
  abbrev pub shown : BTreeMap (String Global) X → FinMap (slice_cmp nat_cmp) X
  shown m = from_entries (map shown_entry m.entries)

  -- maps that answer alike are one
  pub same_shown : (a b : FinMap (slice_cmp nat_cmp) X) → ((q : List ℕ) → fin.get a q ≡ fin.get b q) → a ≡ b
  same_shown a b is = same_map nat_list_cmp_total exact_names a b is

  find_shown : (es : List (String Global × X)) (q : List ℕ) → find (slice_cmp nat_cmp) q (map shown_entry es) ≡ lookup (is_at (λ k. slice_cmp nat_cmp q (string_bytes k))) es
  find_shown [] q = refl
  find_shown (e ∷ es) q =
      elim (is_eq (slice_cmp nat_cmp q (string_bytes e.0))) as (λ b. cond b (Some e.1) (find (slice_cmp nat_cmp) q (map shown_entry es)) ≡ cond b (Some e.1) (lookup (is_at (λ k. slice_cmp nat_cmp q (string_bytes k))) es)) [ true ↦ refl | false ↦ find_shown es q ]

  -- what it has under a name
  pub get-shown : (m : BTreeMap (String Global) X) (q : List ℕ) → fin.get (shown m) q ≡ get_by_text m q
  get-shown m q = get-from_entries nat_list_cmp_total (map shown_entry m.entries) q ∙ find_shown m.entries q

  -- after an insertion
  pub shown-insert : (m n : BTreeMap (String Global) X) (name : List ℕ) (v : X) → UpdatesBy string_cmp (λ k. slice_cmp nat_cmp name (string_bytes k)) m n (Some v) → shown n ≡ fin.insert (shown m) name v
  shown-insert m n name v u = same_shown _ _ (λ q.
      get-shown n q ∙ btree_map_updates_text name m n (Some v) u q ∙ ap (λ b. cond b (Some v) (get_by_text m q)) (nat_list_eq_equiv.symm name q ∙ sym (is_eq-slice_cmp q name))
      ∙ ap (cond (eq_by_cmp (slice_cmp nat_cmp) q name) (Some v)) (sym (get-shown m q)) ∙ sym (get-insert nat_list_cmp_total (shown m) name v q))

  less : (x : List ℕ) (es : List (String Global × X)) → AllByRecursion (λ y. slice_cmp nat_cmp x (string_bytes y) ≡ Less) (keys_of es) → T (below_all (slice_cmp nat_cmp) x (map shown_entry es))
  less x [] all = tt
  less x (e ∷ es) all = both _ _ (subst (λ r. T (is_lt r)) (sym all.0) tt) (less x es all.1)

  sorted_shown : (es : List (String Global × X)) → IsStrictlySortedBy string_cmp (keys_of es) → T (is_sorted (slice_cmp nat_cmp) (map shown_entry es))
  unfolding IsStrictlySortedBy
  sorted_shown [] s = tt
  sorted_shown (e ∷ es) s = both _ _ (less (string_bytes e.0) es s.0) (sorted_shown es s.1)

  -- the names are in order, and differ
  names_below : (x : List ℕ) (es : List (String Global × X)) → AllByRecursion (λ y. slice_cmp nat_cmp x (string_bytes y) ≡ Less) (keys_of es) → AllByRecursion (λ y. slice_cmp nat_cmp x y ≡ Less) (keys_of (map shown_entry es))
  names_below x [] all = tt
  names_below x (e ∷ es) all = (all.0, names_below x es all.1)

  names_sorted : (es : List (String Global × X)) → IsStrictlySortedBy string_cmp (keys_of es) → IsStrictlySortedBy (slice_cmp nat_cmp) (keys_of (map shown_entry es))
  unfolding IsStrictlySortedBy
  names_sorted [] s = tt
  names_sorted (e ∷ es) s = (names_below (string_bytes e.0) es s.0, names_sorted es s.1)

  find-lookup : (q : List ℕ) (es : List (List ℕ × X)) → find (slice_cmp nat_cmp) q es ≡ lookup (eq_by_cmp (slice_cmp nat_cmp) q) es
  find-lookup q [] = refl
  find-lookup q (e ∷ es) = ap (cond (eq_by_cmp (slice_cmp nat_cmp) q e.0) (Some e.1)) (find-lookup q es)

  -- an entry more, at any name
  abbrev pub put_all : List (List ℕ × X) → List ℕ → Option X
  put_all es = update_all (eq_by_cmp (slice_cmp nat_cmp)) (λ _. None) es

  pub get-put_all-push : (m : FinMap (slice_cmp nat_cmp) X) (es : List (List ℕ × X)) (name : List ℕ) (v : X) (q : List ℕ) → fin.get m q ≡ put_all es q → fin.get (fin.insert m name v) q ≡ put_all (es ++ (name, v) ∷ []) q
  get-put_all-push m es name v q is =
      get-insert nat_list_cmp_total m name v q ∙ ap (λ b. cond b (Some v) (fin.get m q)) ((eq_by_cmp_equiv nat_list_cmp_total).symm q name)
      ∙ update_all_push (eq_by_cmp (slice_cmp nat_cmp)) (λ _. None) (fin.get m) es (name, v) q is

  -- a map that has what all entries of another put into it is the same
  pub same_from_put_all : (m : BTreeMap (String Global) X) (n : FinMap (slice_cmp nat_cmp) X) → tree.IsOrdered string_cmp m → ((q : List ℕ) → fin.get n q ≡ put_all (map shown_entry m.entries) q) → n ≡ shown m
  same_from_put_all m n s is = same_shown _ _ (λ q.
      is q ∙ update_all_none (eq_by_cmp_equiv nat_list_cmp_total) (eq_by_cmp (slice_cmp nat_cmp)) (λ x y. refl) (map shown_entry m.entries) q (IsDistinct-from_sorted (slice_cmp nat_cmp) _ (names_sorted m.entries s))
      ∙ sym (find-lookup q (map shown_entry m.entries)) ∙ sym (get-from_entries nat_list_cmp_total (map shown_entry m.entries) q))

  keys_shown : (es : List (String Global × X)) → map (λ e. e.0) (map shown_entry es) ≡ map string_bytes (keys_of es)
  keys_shown [] = refl
  keys_shown (e ∷ es) = ap (λ ns. string_bytes e.0 ∷ ns) (keys_shown es)

  -- the entries in order
  pub entries-shown : (m : BTreeMap (String Global) X) → tree.IsOrdered string_cmp m → fin.entries (shown m) ≡ map shown_entry m.entries
  entries-shown m s =
      let es : List (List ℕ × X) = map shown_entry m.entries in
      same_entries (slice_cmp nat_cmp) nat_list_cmp_total exact_names (fin.entries (shown m)) es (fin.entries_sorted (shown m)) (sorted_shown m.entries s)
      (λ q. sym (fin.get-entries (shown m) q) ∙ get-from_entries nat_list_cmp_total es q)

  -- the names in order
  pub keys-shown : (m : BTreeMap (String Global) X) → tree.IsOrdered string_cmp m → fin.keys (shown m) ≡ map string_bytes (tree.keys m)
  keys-shown m s = ap (map (λ e. e.0)) (entries-shown m s) ∙ keys_shown m.entries

  values_shown : (es : List (String Global × X)) → map (λ e. e.1) (map shown_entry es) ≡ values_of es
  values_shown [] = refl
  values_shown (e ∷ es) = ap (λ vs. e.1 ∷ vs) (values_shown es)

  -- the values in the order of the names
  pub values-shown : (m : BTreeMap (String Global) X) → tree.IsOrdered string_cmp m → fin.values (shown m) ≡ tree.values m
  values-shown m s = ap (map (λ e. e.1)) (entries-shown m s) ∙ values_shown m.entries

-- borrowed entries as they are shown
abbrev pub shown_borrowed : {X : Type 0} → Bor (String Global) × Bor X → List ℕ × X
shown_borrowed e = (string_bytes e.0.now, e.1.now)

pub entries_of_borrowed : {X : Type 0} (es : List (Bor (String Global) × Bor X)) → map shown_borrowed es ≡ map shown_entry (map deref_pair es)
entries_of_borrowed [] = refl
entries_of_borrowed (e ∷ es) = ap (λ (rest : List (List ℕ × _)). shown_borrowed e ∷ rest) (entries_of_borrowed es)

borrowed_push : {X : Type 0} (es : List (Bor (String Global) × Bor X)) (e : Bor (String Global) × Bor X) → map shown_borrowed (es ++ e ∷ []) ≡ map shown_borrowed es ++ shown_borrowed e ∷ []
borrowed_push [] e = refl
borrowed_push (f ∷ es) e = ap (λ (rest : List (List ℕ × _)). shown_borrowed f ∷ rest) (borrowed_push es e)

-- a borrowed entry more
pub get-put_all-borrowed : {X : Type 0} (m : FinMap (slice_cmp nat_cmp) X) (es : List (Bor (String Global) × Bor X)) (name : Bor (String Global)) (v : Bor X) (q : List ℕ) → fin.get m q ≡ put_all (map shown_borrowed es) q → fin.get (fin.insert m (string_bytes name.now) v.now) q ≡ put_all (map shown_borrowed (es ++ (name, v) ∷ [])) q
get-put_all-borrowed m es name v q is =
    get-put_all-push m (map shown_borrowed es) (string_bytes name.now) v.now q is ∙ ap (λ all. put_all all q) (sym (borrowed_push es (name, v)))
