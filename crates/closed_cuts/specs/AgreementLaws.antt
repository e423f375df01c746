-- What two tables with the same stubs have in common where they agree on the reach of a source unit: it is the reach of the unit over both, with the same sources in
-- it, and all that the laws on cuts speak of is the same over both at the elements of these sources and of the stubs.
use Rattle.std.specs.Prelude.{ℕ, List}
use Rattle.apt_base.specs.declared.element.ElementRef.{ElementRef}
use Rattle.element_table.specs.TypeTable.{TypeTable}
use Rattle.reach_map.specs.Agree.{Agree, ShareReach}
use Rattle.reach_map.specs.ClosedCuts.{NameSet, cut}
use Rattle.reach_map.specs.Reach.{IsReach, IsReachList}
use Rattle.closed_cuts.specs.CutElements.{HasUnit}
use Rattle.closed_cuts.specs.FieldLaws.{FieldsStay}
use Rattle.closed_cuts.specs.NameLaws.{NamesStay}
use Rattle.closed_cuts.specs.TypeLaws.{TypesStay}
use Rattle.closed_cuts.specs.QuestionLaws.{QuestionsStay}
use Rattle.closed_cuts.specs.ValueLaws.{ValuesStay}
use Rattle.closed_cuts.specs.PresenceLaws.{PresenceStays}

-- the reach of a unit over the first table, as a list of names on which both tables agree
pub record AgreeOnReach (one other : TypeTable) (root : List ℕ) : Type 0 where
  pub names : List (List ℕ)
  pub is_reach : IsReachList one root names
  pub agree : Agree one other names

-- all that the laws on cuts speak of, at elements of the units whose names have this property
pub record AllStays (one other : TypeTable) (Has : List ℕ → Type 0) : Type 0 where
  pub names : (at : ElementRef) → Has at.unit → NamesStay one other Has at
  pub fields : (at : ElementRef) → Has at.unit → FieldsStay one other Has at
  pub types : TypesStay one other Has
  pub questions : QuestionsStay one other Has
  pub presence : PresenceStays one other Has
  pub values : (at : ElementRef) → Has at.unit → ValuesStay one other Has at

-- these names are the reach of the unit over the other table too, with the same sources in it, and over the cut to them and the stubs all is the same
pub record ShareAll (one other : TypeTable) (root : List ℕ) (names : NameSet) : Type 0 where
  pub reach : ShareReach one other root names
  pub all : AllStays one other (HasUnit (cut one names))

-- whatever set is the reach over the first table
abbrev pub ShareAllOfReach : TypeTable → TypeTable → List ℕ → Type 0
ShareAllOfReach one other root = (names : NameSet) → IsReach one root names → ShareAll one other root names
