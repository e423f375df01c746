-- The index of packages answers as the units do, and stays so where a unit comes.
use Rattle.std.proofs.Common.{◌≡◌, ℕ, Bool, true, false, cond, not, ◌&&◌, ◌||◌, T, List, [], ◌∷◌, map, Option, Some, None, IfSome, Result, Ok, Err, OnOk, OnErr, is_some, refl, sym, ap, ◌∙◌}
use Rattle.std.specs.List.{list_any}
use Rattle.std.specs.Option.{option_copied}
use Rattle.std.specs.Ordering.{nat_cmp, is_eq, is_lt, eq_by_cmp}
use Rattle.std.specs.Str.{bytes_eq}
use Rattle.std.specs.Cmp.{tied_itself, eq_by_cmp_equiv}
use Rattle.std.specs.Cmp.Lexicographic.{slice_cmp, nat_list_cmp_total, nat_list_eq_equiv}
use Rattle.std.specs.declared.cmp.Ordering.TheVariants.{Less, Equal, Greater}
use Rattle.std.specs.FinMap as fin
use Rattle.std.specs.FinMap.{find, is_sorted, get-insert, get-empty, get-entries, contains_key-keys}
use Rattle.std.specs.FinMap.Entries.{below_all}
use Rattle.std.proofs.lemmas.Map.Text.{is_eq-slice_cmp}
use Rattle.std.proofs.lemmas.Map.Made.{is_member-filter}
use Rattle.std.proofs.lemmas.Slice.Eq.{bytes_eq-Decides}
use denote.Ref.{Bor}
use Rattle.decl_tree.specs.declared.compilation.UnitText.{UnitText}
use Rattle.element_table.specs.TypeTable.{Units}
use Rattle.element_table.specs.TableElements.{is_type, declares_in, part_has_types}
use Rattle.element_table.specs.PackageTypes.{declares, types_declared, IsIndexOf}
use Rattle.apt_base.specs.Names.{NameSet, with_names, names_in}
use Rattle.name_index.specs.Index.{Index, or_empty, names_at, with_name_at, without_name_at}
use Rattle.apt_base.proofs.NameSets.{same_name, contains-empty, with_names-same}
use Rattle.name_index.proofs.IndexLaws.{has-with, has-without}

abbrev same : List ℕ → List ℕ → Bool
same = eq_by_cmp (slice_cmp nat_cmp)

-- whether an index has a name in a package
abbrev has : Index → List ℕ → List ℕ → Bool
has index «package» name = fin.contains_key (names_at index «package») name

-- ---- an index of units

pub index-empty : (index : Index) (units : Units) → index ≡ fin.empty → units ≡ fin.empty → IsIndexOf index units
index-empty index units none none' = λ «package» name.
    ap (λ i. has i «package» name) none ∙ ap (λ o. fin.contains_key (or_empty o) name) (get-empty (slice_cmp nat_cmp) «package») ∙ contains-empty name
    ∙ sym (ap (λ u. declares «package» (fin.get u name)) none' ∙ ap (declares «package») (get-empty (slice_cmp nat_cmp) name))

none_declares : («package» : List ℕ) (o : Option UnitText) → is_some o ≡ false → declares «package» o ≡ false
none_declares «package» None e = refl
none_declares «package» (Some unit) e = absurd (cc)

declares_some : («package» : List ℕ) (o : Option UnitText) → (is_some o && declares «package» o) ≡ declares «package» o
declares_some «package» None = refl
declares_some «package» (Some unit) = refl

-- the same index of the same units
pub index-same : (index other : Index) (units more : Units) → IsIndexOf index units → other ≡ index → more ≡ units → IsIndexOf other more
index-same index other units more is same_index same_units = λ «package» name.
    ap (λ i. has i «package» name) same_index ∙ is «package» name ∙ sym (ap (λ u. declares «package» (fin.get u name)) same_units)

-- ---- a unit comes

module _ (index : Index) (units : Units) (is : IsIndexOf index units) (name : List ℕ) (unit : UnitText) (free : fin.contains_key units name ≡ false) where
  -- nothing is declared under its name
  before : («package» q : List ℕ) → same q name ≡ true → declares «package» (fin.get units q) ≡ false
  before «package» q here = ap (λ n. declares «package» (fin.get units n)) (same_name q name here) ∙ none_declares «package» (fin.get units name) free

  after : («package» q : List ℕ) → declares «package» (fin.get (fin.insert units name unit) q) ≡ cond (same q name) (declares_in «package» unit) (declares «package» (fin.get units q))
  after «package» q = ap (declares «package») (get-insert nat_list_cmp_total units name unit q) ∙ there (same q name)
    where
      there : (b : Bool) → declares «package» (cond b (Some unit) (fin.get units q)) ≡ cond b (declares_in «package» unit) (declares «package» (fin.get units q))
      there true = refl
      there false = refl

  -- one that declares no type
  pub stays : is_type unit.body ≡ false → IsIndexOf index (fin.insert units name unit)
  unfolding declares_in
  stays none = λ «package» q. is «package» q ∙ there «package» q (same q name) refl ∙ sym (after «package» q)
    where
      there : («package» q : List ℕ) (b : Bool) → same q name ≡ b → declares «package» (fin.get units q) ≡ cond b (declares_in «package» unit) (declares «package» (fin.get units q))
      there «package» q true here = before «package» q here ∙ sym (ap (λ (b : Bool). b && bytes_eq unit.«package» «package») none)
      there «package» q false here = refl

  -- one that declares a type of its package
  pub grows : is_type unit.body ≡ true → IsIndexOf (with_name_at index unit.«package» name) (fin.insert units name unit)
  unfolding declares_in
  grows declared = λ «package» q.
      has-with index unit.«package» name «package» q
      ∙ ap (λ (b : Bool). (bytes_eq «package» unit.«package» && b) || has index «package» q) (sym (is_eq-slice_cmp q name))
      ∙ there «package» q (same q name) refl
      ∙ sym (after «package» q)
    where
      or_false : (b : Bool) → ((b && true) || false) ≡ b
      or_false true = refl
      or_false false = refl

      and_false : (b c : Bool) → ((b && false) || c) ≡ c
      and_false true c = refl
      and_false false c = refl

      there : («package» q : List ℕ) (b : Bool) → same q name ≡ b → ((bytes_eq «package» unit.«package» && b) || has index «package» q) ≡ cond b (declares_in «package» unit) (declares «package» (fin.get units q))
      there «package» q true here =
          ap (λ (b : Bool). (bytes_eq «package» unit.«package» && true) || b) (is «package» q ∙ before «package» q here)
          ∙ or_false (bytes_eq «package» unit.«package»)
          ∙ nat_list_eq_equiv.symm «package» unit.«package»
          ∙ sym (ap (λ (b : Bool). b && bytes_eq unit.«package» «package») declared)
      there «package» q false here = and_false (bytes_eq «package» unit.«package») (has index «package» q) ∙ is «package» q

  -- where there is no memory for the unit, its name goes again
  pub back : (at : List ℕ) → IsIndexOf (without_name_at (with_name_at index at name) at name) units
  back at = λ «package» q.
      has-without (with_name_at index at name) at name «package» q
      ∙ ap (λ (b : Bool). not (bytes_eq «package» at && bytes_eq q name) && b) (has-with index at name «package» q)
      ∙ there «package» q (bytes_eq «package» at) (bytes_eq q name) refl
      ∙ is «package» q
    where
      there : («package» q : List ℕ) (a b : Bool) → bytes_eq q name ≡ b → (not (a && b) && ((a && b) || has index «package» q)) ≡ has index «package» q
      there «package» q true true e = sym (is «package» q ∙ before «package» q (is_eq-slice_cmp q name ∙ e))
      there «package» q true false e = refl
      there «package» q false b e = refl

  -- after a call that puts it or leaves the units as they were
  pub stays_either : {E : Type 0} (result : Result (Unit {0}) E) (more : Units) → is_type unit.body ≡ false → OnOk result (more ≡ fin.insert units name unit) → OnErr result (more ≡ units) → IsIndexOf index more
  stays_either (Ok done) more none ok err = index-same index index (fin.insert units name unit) more (stays none) refl ok
  stays_either (Err fault) more none ok err = index-same index index units more is refl err

  pub grown : (other : Index) (more : Units) → is_type unit.body ≡ true → other ≡ with_name_at index unit.«package» name → more ≡ fin.insert units name unit → IsIndexOf other more
  grown other more declared with_it put = index-same (with_name_at index unit.«package» name) other (fin.insert units name unit) more (grows declared) with_it put

  pub taken_back : (at : List ℕ) (longer other : Index) (more : Units) → longer ≡ with_name_at index at name → other ≡ without_name_at longer at name → more ≡ units → IsIndexOf other more
  taken_back at longer other more with_it without_it same_units =
      index-same (without_name_at (with_name_at index at name) at name) other units more (back at) (without_it ∙ ap (λ i. without_name_at i at name) with_it) same_units

-- ---- the types of a package

module _ («package» : List ℕ) where
  -- a key that is below all others is none of them
  absent_above : (k : List ℕ) (es : List (List ℕ × UnitText)) → T (below_all (slice_cmp nat_cmp) k es) → find (slice_cmp nat_cmp) k es ≡ None
  absent_above k [] below = refl
  absent_above k (e ∷ es) below =
      elim (slice_cmp nat_cmp k e.0) as (λ r. T (is_lt r && below_all (slice_cmp nat_cmp) k es) → cond (is_eq r) (Some e.1) (find (slice_cmp nat_cmp) k es) ≡ None) [
        | Less ↦ λ rest. absent_above k es rest
        | Equal ↦ λ none. absurd none
        | Greater ↦ λ none. absurd none
      ] below

  first : (a b : Bool) → T (a && b) → T a
  first true b p = tt
  first false b p = absurd p

  second : (a b : Bool) → T (a && b) → T b
  second true b p = p
  second false b p = absurd p

  abbrev values : List (List ℕ × UnitText) → List UnitText
  values es = map (λ e. e.1) es

  -- one of the entries declares such a type, and so does what its name finds
  any_found : (es : List (List ℕ × UnitText)) → T (is_sorted (slice_cmp nat_cmp) es) → list_any (declares_in «package») (values es) ≡ true → (q : List ℕ) × (declares «package» (find (slice_cmp nat_cmp) q es) ≡ true)
  any_found [] sorted some = absurd (cc)
  any_found (x ∷ es) sorted some = by (any_found es (second _ _ sorted)) (declares_in «package» x.1) refl some
    where
      later : (q : List ℕ) → declares «package» (find (slice_cmp nat_cmp) q es) ≡ true → (b : Bool) → same q x.0 ≡ b → declares «package» (cond b (Some x.1) (find (slice_cmp nat_cmp) q es)) ≡ true
      later q found true here =
          let none : declares «package» (find (slice_cmp nat_cmp) q es) ≡ false = ap (λ n. declares «package» (find (slice_cmp nat_cmp) n es)) (same_name q x.0 here) ∙ ap (declares «package») (absent_above x.0 es (first _ _ sorted)) in
          absurd (cc)
      later q found false here = found

      by : (list_any (declares_in «package») (values es) ≡ true → (q : List ℕ) × (declares «package» (find (slice_cmp nat_cmp) q es) ≡ true)) → (b : Bool) → declares_in «package» x.1 ≡ b
          → (b || list_any (declares_in «package») (values es)) ≡ true → (q : List ℕ) × (declares «package» (find (slice_cmp nat_cmp) q (x ∷ es)) ≡ true)
      by rest true here all = (x.0, ap (λ (b : Bool). declares «package» (cond b (Some x.1) (find (slice_cmp nat_cmp) x.0 es))) (ap is_eq (tied_itself nat_list_cmp_total x.0)) ∙ here)
      by rest false here all =
          let there : (q : List ℕ) × (declares «package» (find (slice_cmp nat_cmp) q es) ≡ true) = rest all in
          (there.0, later there.0 there.1 (same there.0 x.0) refl)

  or_true : (a : Bool) → (a || true) ≡ true
  or_true true = refl
  or_true false = refl

  found_any : (q : List ℕ) (es : List (List ℕ × UnitText)) → declares «package» (find (slice_cmp nat_cmp) q es) ≡ true → list_any (declares_in «package») (values es) ≡ true
  found_any q [] found = absurd (cc)
  found_any q (x ∷ es) found = by (found_any q es) (same q x.0) found
    where
      by : (declares «package» (find (slice_cmp nat_cmp) q es) ≡ true → list_any (declares_in «package») (values es) ≡ true) → (b : Bool) → declares «package» (cond b (Some x.1) (find (slice_cmp nat_cmp) q es)) ≡ true
          → (declares_in «package» x.1 || list_any (declares_in «package») (values es)) ≡ true
      by rest true here = ap (λ (b : Bool). b || list_any (declares_in «package») (values es)) here
      by rest false there = ap (λ (b : Bool). declares_in «package» x.1 || b) (rest there) ∙ or_true (declares_in «package» x.1)

  -- what a name of the index finds
  module _ (index : Index) (units : Units) (is : IsIndexOf index units) where
    pub found_declares : (name : List ℕ) → has index «package» name ≡ true → declares «package» (fin.get units name) ≡ true
    found_declares name e = sym (is «package» name) ∙ e

    pub some_type : (name : List ℕ) → has index «package» name ≡ true → part_has_types «package» units ≡ true
    some_type name e = found_any name (fin.entries units) (ap (declares «package») (sym (get-entries units name)) ∙ found_declares name e)

    pub no_type : names_at index «package» ≡ fin.empty → part_has_types «package» units ≡ false
    no_type none = by (part_has_types «package» units) refl
      where
        by : (b : Bool) → part_has_types «package» units ≡ b → b ≡ false
        by false e = refl
        by true e =
            let there : (q : List ℕ) × (declares «package» (find (slice_cmp nat_cmp) q (fin.entries units)) ≡ true) = any_found (fin.entries units) (fin.entries_sorted units) e in
            let here : declares «package» (fin.get units there.0) ≡ true = ap (declares «package») (get-entries units there.0) ∙ there.1 in
            let absent : declares «package» (fin.get units there.0) ≡ false = sym (is «package» there.0) ∙ ap (λ names. fin.contains_key names there.0) none ∙ contains-empty there.0 in
            absurd (cc)

    -- the names of the index are those of the types
    names_alike : (q : List ℕ) → list_any (same q) (names_in (names_at index «package»)) ≡ list_any (same q) (types_declared «package» units)
    unfolding types_declared
    names_alike q =
        sym (contains_key-keys (names_at index «package») q)
        ∙ is «package» q
        ∙ sym (declares_some «package» (fin.get units q))
        ∙ ap (λ (b : Bool). b && declares «package» (fin.get units q)) (contains_key-keys units q)
        ∙ sym (is_member-filter (eq_by_cmp_equiv nat_list_cmp_total) (λ name. declares «package» (fin.get units name)) q (λ x tied. ap (λ name. declares «package» (fin.get units name)) (same_name q x tied)) (fin.keys units))

    -- where the index has none there are none
    pub no_types : names_at index «package» ≡ fin.empty → (all : NameSet) → all ≡ with_names all (types_declared «package» units)
    no_types none all = with_names-same all [] (types_declared «package» units) (λ q.
        sym (contains-empty q) ∙ ap (λ names. fin.contains_key names q) (sym none) ∙ contains_key-keys (names_at index «package») q ∙ names_alike q)

    pub with_types : (all : NameSet) → with_names all (names_in (names_at index «package»)) ≡ with_names all (types_declared «package» units)
    with_types all = with_names-same all (names_in (names_at index «package»)) (types_declared «package» units) names_alike

second_of : (a b : Bool) → (a && b) ≡ true → b ≡ true
second_of true b e = e
second_of false b e = absurd (cc)

first_of : (a b : Bool) → (a && b) ≡ true → a ≡ true
first_of true b e = refl
first_of false b e = absurd (cc)

-- what a unit is that declares a type of a package
declares-type : («package» : List ℕ) (unit : UnitText) → declares_in «package» unit ≡ true → is_type unit.body ≡ true
unfolding declares_in
declares-type «package» unit e = first_of (is_type unit.body) (bytes_eq unit.«package» «package») e

declares-package : («package» : List ℕ) (unit : UnitText) → declares_in «package» unit ≡ true → unit.«package» ≡ «package»
unfolding declares_in
declares-package «package» unit e = (bytes_eq-Decides unit.«package» «package»).0 (second_of (is_type unit.body) (bytes_eq unit.«package» «package») e)

-- what is found under a name that the index has
module _ («package» : List ℕ) (found : Option (Bor UnitText)) (o : Option UnitText) (is : option_copied found ≡ o) (declared : declares «package» o ≡ true) where
  there : declares «package» (option_copied found) ≡ true
  there = ap (declares «package») is ∙ declared

  pub found-some : is_some found ≡ true
  found-some = by found there
    where
      by : (r : Option (Bor UnitText)) → declares «package» (option_copied r) ≡ true → is_some r ≡ true
      by None e = absurd (cc)
      by (Some unit) e = refl

  pub found-type : IfSome found (λ unit. is_type unit.now.body ≡ true)
  found-type = by found there
    where
      by : (r : Option (Bor UnitText)) → declares «package» (option_copied r) ≡ true → IfSome r (λ unit. is_type unit.now.body ≡ true)
      by None e = tt
      by (Some unit) e = declares-type «package» unit.now e

  pub found-package : IfSome found (λ unit. unit.now.«package» ≡ «package»)
  found-package = by found there
    where
      by : (r : Option (Bor UnitText)) → declares «package» (option_copied r) ≡ true → IfSome r (λ unit. unit.now.«package» ≡ «package»)
      by None e = tt
      by (Some unit) e = declares-package «package» unit.now e
