-- The law on names of values over closed cuts, at an element of the cut: the fields and enum constants of a
-- name that a type has, and the one that each name chain that is written in its unit means, are the same over
-- the cut, and lie in it. So they are the same over two tables that have one cut.
use Rattle.std.specs.Prelude.{ℕ, List}
use Rattle.std.specs.List.{AllByRecursion}
use Rattle.apt_base.specs.declared.element.ElementRef.{ElementRef}
use Rattle.element_table.specs.TypeTable.{TypeTable}
use Rattle.expression_names.specs.Fields.{fields, field_meaning}
use Rattle.name_resolve.specs.Finds.{Find}
use Rattle.type_resolve.specs.Scopes.{find_in}
use Rattle.reach_map.specs.Chains.{unit_chains}
use Rattle.reach_map.specs.ClosedCuts.{NameSet, cut}
use Rattle.closed_cuts.specs.CutElements.{HasUnit, LiesIn, IsRooted, HaveOneCut}
use Rattle.closed_cuts.specs.NameLaws.{SameFinds}

-- over two tables, at elements of the units whose names have a property
module _ (one other : TypeTable) (Has : List ℕ → Type 0) where
  -- at this place
  pub record PlaceFieldsStay (f : Find) : Type 0 where
    -- the fields and enum constants of a name, inherited ones too
    pub fields : (name : List ℕ) → SameFinds one other Has (fields one f name) (fields other f name)
    -- each name chain as the name of one
    pub chains :
        AllByRecursion
        (λ chain. SameFinds one other Has (field_meaning one f chain) (field_meaning other f chain))
        (unit_chains f.unit)

  abbrev pub FieldsStay : ElementRef → Type 0
  FieldsStay at = PlaceFieldsStay (find_in one at)

abbrev pub AllFieldsStay : Type 0
AllFieldsStay =
    (table : TypeTable) (names : NameSet) → IsRooted table names → (at : ElementRef) → LiesIn table names at
    → FieldsStay table (cut table names) (HasUnit (cut table names)) at

abbrev pub AllFieldsAgree : Type 0
AllFieldsAgree =
    (one other : TypeTable) (names : NameSet) → HaveOneCut one other names
    → (at : ElementRef) → LiesIn one names at
    → FieldsStay one other (HasUnit (cut one names)) at
