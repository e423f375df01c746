-- What an index has after a name was added or taken away.
use Rattle.std.proofs.Common.{◌≡◌, ℕ, Bool, true, false, cond, not, ◌&&◌, ◌||◌, List, Some, None, IsSome, Result, Ok, Err, OnOk, OnErr, is_some, refl, sym, ap, ◌∙◌}
use Rattle.std.specs.BTreeMap as tree
use Rattle.std.specs.BTreeMap.{BTreeMap, UpdatesBy}
use Rattle.std.specs.Ordering.{nat_cmp, is_eq, eq_by_cmp}
use Rattle.std.specs.String.{string_cmp}
use Rattle.std.specs.Prelude.{String, string_bytes}
use Rattle.std.specs.Str.{bytes_eq}
use Rattle.std.specs.Cmp.{tied_itself}
use Rattle.std.specs.Cmp.Lexicographic.{slice_cmp, nat_list_cmp_total}
use Rattle.std.specs.FinMap as fin
use Rattle.std.specs.FinMap.{get-insert, same_map}
use Rattle.std.specs.declared.alloc.Global.{Global}
use Rattle.std.proofs.lemmas.Map.Text.{is_eq-slice_cmp}
use Rattle.apt_base.specs.Names.{NameSet, with_name}
use Rattle.name_index.specs.Index.{Index, or_empty, names_at, with_name_at, without_name_at, index_of}
use Rattle.name_index.proofs.TextMaps.{get-shown, shown-insert}
use Rattle.apt_base.proofs.NameSets.{exact_names, same_name, contains-with_name, contains-remove}

abbrev same : List ℕ → List ℕ → Bool
same = eq_by_cmp (slice_cmp nat_cmp)

-- whether an index has a name at a name
abbrev has : Index → List ℕ → List ℕ → Bool
has index at name = fin.contains_key (names_at index at) name

-- ---- an index, and a name more or less

at_place : (P : NameSet → Bool) (index : Index) (at other : List ℕ) (names : NameSet) (b : Bool) → same other at ≡ b → P (names_at (fin.insert index at names) other) ≡ cond b (P names) (P (names_at index other))
at_place P index at other names true here = ap (λ o. P (or_empty o)) (get-insert nat_list_cmp_total index at names other ∙ ap (λ b. cond b (Some names) (fin.get index other)) here)
at_place P index at other names false here = ap (λ o. P (or_empty o)) (get-insert nat_list_cmp_total index at names other ∙ ap (λ b. cond b (Some names) (fin.get index other)) here)

pub has-with : (index : Index) (at name other q : List ℕ) → has (with_name_at index at name) other q ≡ ((bytes_eq other at && bytes_eq q name) || has index other q)
has-with index at name other q =
    at_place (λ names. fin.contains_key names q) index at other (with_name (names_at index at) name) (bytes_eq other at) (is_eq-slice_cmp other at)
    ∙ ap (λ b. cond (bytes_eq other at) b (has index other q)) (contains-with_name (names_at index at) name q)
    ∙ there (bytes_eq other at) refl
  where
    there : (b : Bool) → bytes_eq other at ≡ b → cond b (bytes_eq q name || has index at q) (has index other q) ≡ ((b && bytes_eq q name) || has index other q)
    there true e = ap (λ p. bytes_eq q name || has index p q) (sym (same_name other at (is_eq-slice_cmp other at ∙ e)))
    there false e = refl

pub has-without : (index : Index) (at name other q : List ℕ) → has (without_name_at index at name) other q ≡ (not (bytes_eq other at && bytes_eq q name) && has index other q)
has-without index at name other q =
    at_place (λ names. fin.contains_key names q) index at other (fin.remove (names_at index at) name) (bytes_eq other at) (is_eq-slice_cmp other at)
    ∙ ap (λ b. cond (bytes_eq other at) b (has index other q)) (contains-remove (names_at index at) name q)
    ∙ there (bytes_eq other at) refl
  where
    there : (b : Bool) → bytes_eq other at ≡ b → cond b (not (bytes_eq q name) && has index at q) (has index other q) ≡ (not (b && bytes_eq q name) && has index other q)
    there true e = ap (λ p. not (bytes_eq q name) && has index p q) (sym (same_name other at (is_eq-slice_cmp other at ∙ e)))
    there false e = refl

-- a value that is there put in its place changes nothing
pub insert_same : (index : Index) (at : List ℕ) (names : NameSet) → fin.get index at ≡ Some names → fin.insert index at names ≡ index
insert_same index at names is = same_map nat_list_cmp_total exact_names _ _ (λ q. get-insert nat_list_cmp_total index at names q ∙ there q (same q at) refl)
  where
    there : (q : List ℕ) (b : Bool) → same q at ≡ b → cond b (Some names) (fin.get index q) ≡ fin.get index q
    there q true e = sym is ∙ ap (fin.get index) (sym (same_name q at e))
    there q false e = refl

-- where there is no place there are no names
pub no_names : (index : Index) (at : List ℕ) → fin.get index at ≡ None → names_at index at ≡ fin.empty
no_names index at e = ap or_empty e

-- where a name was added there is a place
pub has_place : (index : Index) (at name : List ℕ) → fin.contains_key (with_name_at index at name) at ≡ true
has_place index at name =
    ap is_some (get-insert nat_list_cmp_total index at (with_name (names_at index at) name) at)
    ∙ ap (λ b. is_some (cond b (Some (with_name (names_at index at) name)) (fin.get index at))) (ap is_eq (tied_itself nat_list_cmp_total at))

-- ---- an index in memory, after a set was changed in its place

module _ (old new : BTreeMap (String Global) NameSet) (at : List ℕ) (names : NameSet) (there : tree.get_by_text old at ≡ Some names) where
  place : fin.get (index_of old) at ≡ Some names
  place = get-shown old at ∙ there

  -- what the map is once the set in its place ends as this one
  abbrev Ends : NameSet → Type 0
  Ends now = IsSome (tree.get_by_text old at) → UpdatesBy string_cmp (λ k. slice_cmp nat_cmp at (string_bytes k)) old new (Some now)

  changed : (now more : NameSet) → now ≡ more → Ends now → index_of new ≡ fin.insert (index_of old) at more
  changed now more is ends = shown-insert old new at now (ends (ap is_some there)) ∙ ap (fin.insert (index_of old) at) is

  pub unchanged : (now : NameSet) → now ≡ names → Ends now → index_of new ≡ index_of old
  unchanged now is ends = changed now names is ends ∙ insert_same (index_of old) at names place

  -- a name more, and a name less
  pub one_more : (name : List ℕ) (now : NameSet) → now ≡ with_name names name → Ends now → index_of new ≡ with_name_at (index_of old) at name
  one_more name now is ends = changed now (with_name names name) is ends ∙ ap (λ o. fin.insert (index_of old) at (with_name (or_empty o) name)) (sym place)

  pub one_less : (name : List ℕ) (now : NameSet) → now ≡ fin.remove names name → Ends now → index_of new ≡ without_name_at (index_of old) at name
  one_less name now is ends = changed now (fin.remove names name) is ends ∙ ap (λ o. fin.insert (index_of old) at (fin.remove (or_empty o) name)) (sym place)

-- a name that is there is found
pub not_absent : {P : Type 0} (held : BTreeMap (String Global) NameSet) (at : List ℕ) (index : Index) → index_of held ≡ index → tree.get_by_text held at ≡ None → fin.contains_key index at ≡ true → P
not_absent held at index is gone there =
    let found : fin.contains_key (index_of held) at ≡ true = ap (λ i. fin.contains_key i at) is ∙ there in
    let none : fin.contains_key (index_of held) at ≡ false = ap is_some (get-shown held at ∙ gone) in
    absurd (cc)

-- what follows on each way out of a call
pub on_ok : {A E P Q : Type 0} (result : Result A E) → (P → Q) → OnOk result P → OnOk result Q
on_ok (Ok value) f p = f p
on_ok (Err fault) f p = tt

pub on_err : {A E P Q : Type 0} (result : Result A E) → (P → Q) → OnErr result P → OnErr result Q
on_err (Ok value) f p = tt
on_err (Err fault) f p = f p
