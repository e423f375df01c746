-- What a table has after a unit was entered.
use Rattle.std.proofs.Common.{◌≡◌, ℕ, ◌+◌, ◌≤◌, Bool, true, false, cond, ◌||◌, List, [], ◌∷◌, map, length, is_some, lit≤, Option, Some, None, Ok, Err, IfSome, IsTrue, nat_le, refl, sym, ap, subst, ◌∙◌, arith}
use Rattle.std.specs.List.{sum_by}
use Rattle.std.specs.Ordering.{nat_cmp, is_eq, eq_by_cmp}
use Rattle.std.specs.declared.cmp.Ordering.TheVariants.{Less, Equal, Greater}
use Rattle.std.specs.Cmp.Lexicographic.{slice_cmp, nat_list_cmp_total}
use Rattle.std.specs.FinMap as fin
use Rattle.std.specs.FinMap.{find, get-insert, entries-insert, get-entries}
use Rattle.std.specs.FinMap.Entries.{put, by_order}
use Rattle.std.proofs.lemmas.Bool.{leb-true}
use Rattle.std.proofs.lemmas.List.Sums.{sum_by-cons}
use Rattle.std.proofs.lemmas.Map.Text.{is_eq-slice_cmp}
use Rattle.std.proofs.lemmas.Slice.Eq.{bytes_eq-Decides}
use Rattle.decl_tree.specs.declared.compilation.UnitText.{UnitText}
use Rattle.element_table.specs.declared.answer.Answer.TheVariants.{IsNew, IsDuplicate}
use Rattle.element_table.specs.declared.fault.EnterFault.TheVariants.{Duplicate, TooMany}
use Rattle.element_table.specs.declared.part.Part.{Part}
use Rattle.element_table.specs.declared.part.Part.TheVariants.{Source, Stub}
use Rattle.element_table.specs.TypeCounts.{unit_types}
use Rattle.element_table.specs.UnitNames.{unit_name}
use Rattle.element_table.specs.TypeTable.{Units, TypeTable, has_unit, types_in, table_types, most_types, table_of, empty_table, entered, counted_answer, answer_to, Answers, IsThere, IsFull, outcome_by, outcome_of, IsNamed, IsTable, IsTableOf}

-- ---- one part

abbrev empty_units : Units
empty_units = fin.empty

same_name : (q name : List ℕ) → eq_by_cmp (slice_cmp nat_cmp) q name ≡ true → q ≡ name
same_name q name e = (bytes_eq-Decides q name).0 (sym (is_eq-slice_cmp q name) ∙ e)

chosen : {A : Type 0} (P : A → Type 0) (b : Bool) (x y : A) → (b ≡ true → P x) → P y → P (cond b x y)
chosen P true x y here there = here refl
chosen P false x y here there = there

-- what holds of the new unit at its name, and of what was there at each name, holds after an insertion
pub at_insert : (P : Option UnitText → Type 0) (units : Units) (name : List ℕ) (unit : UnitText) (q : List ℕ) → (q ≡ name → P (Some unit)) → P (fin.get units q) → P (fin.get (fin.insert units name unit) q)
at_insert P units name unit q here there =
    subst P (sym (get-insert nat_list_cmp_total units name unit q)) (chosen P (eq_by_cmp (slice_cmp nat_cmp) q name) (Some unit) (fin.get units q) (λ e. here (same_name q name e)) there)

none : {A : Type 0} (o : Option A) → is_some o ≡ false → o ≡ None
none None e = refl
none (Some x) e = absurd (cc)

module _ (f : UnitText → ℕ) (k : List ℕ) (v : UnitText) where
  abbrev values : List (List ℕ × UnitText) → List UnitText
  values es = map (λ e. e.1) es

  sum-put : (es : List (List ℕ × UnitText)) → find (slice_cmp nat_cmp) k es ≡ None → sum_by f (values (put (slice_cmp nat_cmp) k v es)) ≡ f v + sum_by f (values es)
  sum-put [] absent = sum_by-cons f v []
  sum-put (e ∷ es) absent =
      elim (slice_cmp nat_cmp k e.0) as (λ r. cond (is_eq r) (Some e.1) (find (slice_cmp nat_cmp) k es) ≡ None
      → sum_by f (values (by_order r ((k, v) ∷ e ∷ es) ((e.0, v) ∷ es) (e ∷ put (slice_cmp nat_cmp) k v es))) ≡ f v + sum_by f (e.1 ∷ values es)) [
        | Less ↦ λ n. sum_by-cons f v (e.1 ∷ values es)
        | Equal ↦ λ n. absurd (cc)
        | Greater ↦ λ n.
            let later : sum_by f (values (put (slice_cmp nat_cmp) k v es)) ≡ f v + sum_by f (values es) = sum-put es n in
            let new : sum_by f (e.1 ∷ values (put (slice_cmp nat_cmp) k v es)) ≡ f e.1 + sum_by f (values (put (slice_cmp nat_cmp) k v es)) = sum_by-cons f e.1 (values (put (slice_cmp nat_cmp) k v es)) in
            let old : sum_by f (e.1 ∷ values es) ≡ f e.1 + sum_by f (values es) = sum_by-cons f e.1 (values es) in
            omega arith
      ] absent

types_in-insert : (units : Units) (name : List ℕ) (unit : UnitText) → fin.contains_key units name ≡ false → types_in (fin.insert units name unit) ≡ unit_types unit + types_in units
types_in-insert units name unit free =
    ap (λ es. sum_by unit_types (map (λ e. e.1) es)) (entries-insert nat_list_cmp_total units name unit)
    ∙ sum-put unit_types name unit (fin.entries units) (sym (get-entries units name) ∙ none _ free)

-- ---- which units are new

-- a unit that may be entered: no unit has its name, and the types are not too many
record MayEnter (table : TypeTable) (unit : UnitText) (types : ℕ) : Type 0 where
  pub absent : has_unit table (unit_name unit) ≡ false
  pub counted : types ≡ table_types table + unit_types unit
  pub few : types ≤ most_types

may_enter_by : (table : TypeTable) (unit : UnitText) (types : ℕ) (there few : Bool) → has_unit table (unit_name unit) ≡ there → nat_le (table_types table + unit_types unit) most_types ≡ few → cond there IsDuplicate (counted_answer (cond few (Some (table_types table + unit_types unit)) None)) ≡ IsNew types → MayEnter table unit types
may_enter_by table unit types true few absent within is = absurd (cc)
may_enter_by table unit types false false absent within is = absurd (cc)
may_enter_by table unit types false true absent within is =
    let counted : types ≡ table_types table + unit_types unit = cc in
    let most : table_types table + unit_types unit ≤ most_types = leb-true (table_types table + unit_types unit) most_types within in
    record { absent = absent; counted = counted; few = subst (λ n. n ≤ most_types) (sym counted) most }

may_enter : (table : TypeTable) (unit : UnitText) (types : ℕ) → answer_to table unit ≡ IsNew types → MayEnter table unit types
unfolding answer_to
may_enter table unit types is = may_enter_by table unit types (has_unit table (unit_name unit)) (nat_le (table_types table + unit_types unit) most_types) refl refl is

first_free : (a b : Bool) → (a || b) ≡ false → a ≡ false
first_free true b e = absurd (cc)
first_free false b e = refl

second_free : (a b : Bool) → (a || b) ≡ false → b ≡ false
second_free true b e = absurd (cc)
second_free false b e = e

-- ---- what entering comes to

module _ (part : Part) (table : TypeTable) (unit : UnitText) where
  pub outcome_of-Ok : (next : TypeTable) → Answers (answer_to table unit) (Ok tt) → next ≡ entered part unit table → outcome_of part unit table ≡ Ok next
  outcome_of-Ok next answer is = ap (λ a. outcome_by a part unit table) answer.1 ∙ ap Ok (sym is)

  pub outcome_of-Duplicate : (back : UnitText) → Answers (answer_to table unit) (Err (Duplicate back)) → outcome_of part unit table ≡ Err IsThere
  outcome_of-Duplicate back answer = ap (λ a. outcome_by a part unit table) answer

  pub outcome_of-TooMany : (back : UnitText) → Answers (answer_to table unit) (Err (TooMany back)) → outcome_of part unit table ≡ Err IsFull
  outcome_of-TooMany back answer = ap (λ a. outcome_by a part unit table) answer

-- ---- the empty table

no_entries : {A : Type 0} (es : List A) → length es ≡ 0 → es ≡ []
no_entries [] e = refl
no_entries (x ∷ es) e = absurd (omega arith)

types_in-empty : types_in fin.empty ≡ 0
types_in-empty = ap (λ es. sum_by unit_types (map (λ e. e.1) es)) (no_entries (fin.entries fin.empty) (sym (fin.len-entries fin.empty) ∙ fin.len-empty (slice_cmp nat_cmp) UnitText))

contains-empty : (q : List ℕ) → fin.contains_key empty_units q ≡ false
contains-empty q = ap is_some (fin.get-empty (slice_cmp nat_cmp) q)

named_empty : IsNamed empty_units
named_empty q = subst (λ o. IfSome o (λ unit. unit_name unit ≡ q)) (sym (fin.get-empty (slice_cmp nat_cmp) q)) tt

types_of_none : table_types empty_table ≡ 0
unfolding table_types
types_of_none = let none : types_in empty_units ≡ 0 = types_in-empty in omega arith

IsTable-empty : IsTable empty_table
IsTable-empty = record {
  apart = λ q here. contains-empty q;
  sources_named = named_empty;
  stubs_named = named_empty;
  few = subst (λ n. n ≤ most_types) (sym types_of_none) (lit≤ tt);
}

-- what a new table has
pub empty_holds : (sources stubs : Units) → sources ≡ fin.empty → stubs ≡ fin.empty → IsTableOf 0 (table_of sources stubs)
empty_holds sources stubs none none' =
    subst (λ a. IsTableOf 0 (table_of a stubs)) (sym none)
    (subst (λ b. IsTableOf 0 (table_of fin.empty b)) (sym none') (IsTable-empty, sym types_of_none))

-- ---- the table

module _ (table : TypeTable) (unit : UnitText) (free : has_unit table (unit_name unit) ≡ false) where
  abbrev name : List ℕ
  name = unit_name unit

  no_source : fin.contains_key table.source name ≡ false
  no_source = first_free _ _ free

  no_stub : fin.contains_key table.stub name ≡ false
  no_stub = second_free _ _ free

  pub table_types-entered : (part : Part) → table_types (entered part unit table) ≡ table_types table + unit_types unit
  unfolding table_types
  table_types-entered Source = let more = types_in-insert table.source name unit no_source in omega arith
  table_types-entered Stub = let more = types_in-insert table.stub name unit no_stub in omega arith

  named_more : (units : Units) → IsNamed units → IsNamed (fin.insert units name unit)
  named_more units named q = at_insert (λ o. IfSome o (λ u. unit_name u ≡ q)) units name unit q (λ e. sym e) (named q)

  IsTable-entered : (part : Part) → IsTable table → table_types table + unit_types unit ≤ most_types → IsTable (entered part unit table)
  IsTable-entered Source is few = record {
    apart = λ q. at_insert (λ o. IsTrue (is_some o) → fin.contains_key table.stub q ≡ false) table.source name unit q (λ e _. subst (λ n. fin.contains_key table.stub n ≡ false) (sym e) no_stub) (is.apart q);
    sources_named = named_more table.source is.sources_named;
    stubs_named = is.stubs_named;
    few = subst (λ n. n ≤ most_types) (sym (table_types-entered Source)) few;
  }
  IsTable-entered Stub is few = record {
    apart = λ q. at_insert (λ o. IsTrue (fin.contains_key table.source q) → is_some o ≡ false) table.stub name unit q (λ e there. let here : fin.contains_key table.source q ≡ false = subst (λ n. fin.contains_key table.source n ≡ false) (sym e) no_source in absurd (cc)) (is.apart q);
    sources_named = is.sources_named;
    stubs_named = named_more table.stub is.stubs_named;
    few = subst (λ n. n ≤ most_types) (sym (table_types-entered Stub)) few;
  }

-- the name of a unit that may be entered is free in each part
module _ (table : TypeTable) (unit : UnitText) (types : ℕ) (new : answer_to table unit ≡ IsNew types) (name : List ℕ) (named : name ≡ unit_name unit) where
  pub free_source : fin.contains_key table.source name ≡ false
  free_source = ap (fin.contains_key table.source) named ∙ no_source table unit (may_enter table unit types new).absent

  pub free_stub : fin.contains_key table.stub name ≡ false
  free_stub = ap (fin.contains_key table.stub) named ∙ no_stub table unit (may_enter table unit types new).absent

-- a unit that may be entered makes a table again, of this many types
module _ (table : TypeTable) (unit : UnitText) (types : ℕ) (is : IsTable table) (new : answer_to table unit ≡ IsNew types) where
  grown : (part : Part) → IsTableOf types (entered part unit table)
  grown part =
      let may : MayEnter table unit types = may_enter table unit types new in (
        IsTable-entered table unit may.absent part is (subst (λ n. n ≤ most_types) may.counted may.few),
        may.counted ∙ sym (table_types-entered table unit may.absent part),
      )

  module _ (name : List ℕ) (sources stubs : Units) (named : name ≡ unit_name unit) where
    pub grown-Source : sources ≡ fin.insert table.source name unit → stubs ≡ table.stub → IsTableOf types (table_of sources stubs)
    grown-Source more same =
        let source : sources ≡ fin.insert table.source (unit_name unit) unit = more ∙ ap (λ n. fin.insert table.source n unit) named in
        let now : table_of sources stubs ≡ entered Source unit table = λ i. record { source = source i; stub = same i } in
        subst (IsTableOf types) (sym now) (grown Source)

    pub grown-Stub : sources ≡ table.source → stubs ≡ fin.insert table.stub name unit → IsTableOf types (table_of sources stubs)
    grown-Stub same more =
        let stub : stubs ≡ fin.insert table.stub (unit_name unit) unit = more ∙ ap (λ n. fin.insert table.stub n unit) named in
        let now : table_of sources stubs ≡ entered Stub unit table = λ i. record { source = same i; stub = stub i } in
        subst (IsTableOf types) (sym now) (grown Stub)
