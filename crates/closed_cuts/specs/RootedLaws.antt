-- Which sets the laws are of: the reach of a source unit, and all names of several such sets. And which two tables have one cut.
use Rattle.std.specs.Prelude.{◌≡◌, ℕ, ◌||◌, List, None, Some}
use Rattle.std.specs.FinMap as fin
use Rattle.decl_tree.specs.declared.compilation.UnitText.{UnitText}
use Rattle.element_table.specs.TypeTable.{TypeTable, IsTable, unit_of}
use Rattle.reach_map.specs.ClosedCuts.{NameSet, cut}
use Rattle.reach_map.specs.Reach.{IsReach}
use Rattle.reach_map.specs.Agree.{ShareReach}
use Rattle.closed_cuts.specs.CutElements.{IsRooted, HaveOneCut}

-- the reach of a source unit
abbrev pub ReachesAreRooted : Type 0
ReachesAreRooted =
    (table : TypeTable) (root : List ℕ) (unit : UnitText) (names : NameSet)
    → IsTable table → fin.get table.source root ≡ Some unit → IsReach table root names → IsRooted table names

-- the names of either set
abbrev pub either_set : NameSet → NameSet → NameSet
either_set one other name = one name || other name

abbrev pub UnionsAreRooted : Type 0
UnionsAreRooted =
    (table : TypeTable) (one other : NameSet) → IsRooted table one → IsRooted table other → IsRooted table (either_set one other)

-- two tables that agree on the reach of a source unit, by `reach_map`, have one cut to it
abbrev pub SharedReachesAreOne : Type 0
SharedReachesAreOne =
    (one other : TypeTable) (root : List ℕ) (unit : UnitText) (names : NameSet)
    → IsTable one → IsTable other → one.stub ≡ other.stub → fin.get one.source root ≡ Some unit
    → IsReach one root names → ShareReach one other root names → HaveOneCut one other names

-- a name without a unit has none in a cut
abbrev pub AbsentStays : Type 0
AbsentStays =
    (table : TypeTable) (names : NameSet) (name : List ℕ) → unit_of table name ≡ None → unit_of (cut table names) name ≡ None
