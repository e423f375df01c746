-- The law on names over closed cuts, at an element of the cut: what each name, type text and annotation name that is written in its unit means, what its imports
-- name and what the implied names are is the same over the cut, and lies in the cut. So it is the same over two tables that have one cut.
use Rattle.std.specs.Prelude.{◌≡◌, ℕ, Bool, List, take}
use Rattle.std.specs.List.{AllByRecursion, Contains}
use Rattle.apt_base.specs.Identifiers.{parts}
use Rattle.apt_base.specs.declared.element.ElementRef.{ElementRef}
use Rattle.decl_tree.specs.declared.type_text.TypeText.{TypeText}
use Rattle.element_table.specs.TypeTable.{TypeTable}
use Rattle.name_resolve.specs.Annotations.{annotation_meaning}
use Rattle.name_resolve.specs.Finds.{Find, Finds, Nothing, One, Several}
use Rattle.name_resolve.specs.Meaning.{scope_of, tops_of, imported, members, meaning, qualifier_meaning, but_last}
use Rattle.name_resolve.specs.Mirrors.{ref_of, type_meaning}
use Rattle.type_resolve.specs.Scopes.{find_in}
use Rattle.reach_map.specs.Candidates.{implied_names}
use Rattle.reach_map.specs.Chains.{unit_chains}
use Rattle.reach_map.specs.ClosedCuts.{NameSet, cut, IsWritten}
use Rattle.closed_cuts.specs.CutElements.{HasUnit, LiesIn, IsRooted, HaveOneCut}
use Rattle.closed_cuts.specs.TypeLaws.{Lies, Within}
use Rattle.closed_cuts.specs.Kept.{Kept, IfAny}

-- over two tables, at elements of the units whose names have a property
module _ (one other : TypeTable) (Has : List ℕ → Type 0) where
  -- what stands at an element of one of these units
  pub record FindLies (f : Find) : Type 0 where
    pub unit : Has (ref_of f).unit
    pub is_there : find_in one (ref_of f) ≡ f

  -- the element that is found, if one is, is such a one
  abbrev pub FindsLie : Finds → Type 0
  FindsLie (One f) = FindLies f
  FindsLie Nothing = Unit {0}
  FindsLie Several = Unit {0}

  abbrev pub SameFinds : Finds → Finds → Type 0
  SameFinds = Kept FindsLie

  -- in a scope at this place: within it, or in its header
  pub record ScopeStays (f : Find) (header : Bool) : Type 0 where
    -- each front of each name chain, by itself and in front of another name
    pub wholes :
        AllByRecursion
        (λ chain. (front : ℕ) → SameFinds (meaning one (scope_of header f) (take front chain)) (meaning other (scope_of header f) (take front chain)))
        (unit_chains f.unit)
    pub fronts :
        AllByRecursion
        (λ chain. (front : ℕ) → SameFinds (qualifier_meaning one (scope_of header f) (take front chain)) (qualifier_meaning other (scope_of header f) (take front chain)))
        (unit_chains f.unit)
    pub types :
        (text : TypeText) → IsWritten f.unit text
        → Kept (Within one other Has) (type_meaning one (scope_of header f) text) (type_meaning other (scope_of header f) text)
    pub annotations :
        (name : List ℕ) → Contains (unit_chains f.unit) (parts name)
        → Kept (IfAny (Lies one other Has)) (annotation_meaning one (scope_of header f) name) (annotation_meaning other (scope_of header f) name)

  -- at this place
  pub record PlaceStays (f : Find) : Type 0 where
    pub scopes : (header : Bool) → ScopeStays f header
    -- the member types of a name, inherited ones too
    pub members : (name : List ℕ) → SameFinds (members one f name) (members other f name)
    pub imports :
        AllByRecursion
        (λ i. SameFinds (imported (tops_of one) f.part (parts i.name)) (imported (tops_of other) f.part (parts i.name))) f.unit.imports
    -- what the names in front of the last one of an import mean: a static one takes its members from there
    pub import_types :
        AllByRecursion
        (λ i.
        SameFinds (imported (tops_of one) f.part (but_last (parts i.name)))
        (imported (tops_of other) f.part (but_last (parts i.name)))) f.unit.imports
    pub implied : AllByRecursion (λ name. SameFinds (tops_of one f.part name) (tops_of other f.part name)) implied_names

  pub record NamesStay (at : ElementRef) : Type 0 where
    -- look-ups begin at the same place
    pub place : find_in one at ≡ find_in other at
    pub there : PlaceStays (find_in one at)

abbrev pub AllNamesStay : Type 0
AllNamesStay =
    (table : TypeTable) (names : NameSet) → IsRooted table names → (at : ElementRef) → LiesIn table names at
    → NamesStay table (cut table names) (HasUnit (cut table names)) at

abbrev pub AllNamesAgree : Type 0
AllNamesAgree =
    (one other : TypeTable) (names : NameSet) → HaveOneCut one other names → (at : ElementRef) → LiesIn one names at
    → NamesStay one other (HasUnit (cut one names)) at
