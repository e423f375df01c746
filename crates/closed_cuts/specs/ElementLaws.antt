-- What the laws on cuts say of one element that lies in a cut.
use Rattle.std.specs.Prelude.{ℕ, List}
use Rattle.apt_base.specs.declared.element.ElementRef.{ElementRef}
use Rattle.element_table.specs.TypeTable.{TypeTable}
use Rattle.reach_map.specs.ClosedCuts.{NameSet, cut}
use Rattle.closed_cuts.specs.CutElements.{HasUnit, IsRooted}
use Rattle.closed_cuts.specs.FieldLaws.{FieldsStay}
use Rattle.closed_cuts.specs.NameLaws.{NamesStay}
use Rattle.closed_cuts.specs.PresenceLaws.{ElementPresenceStays}
use Rattle.closed_cuts.specs.TypeLaws.{ElementStays}
use Rattle.closed_cuts.specs.ValueLaws.{ValuesStay}

-- the names that are written at it, what stands there, the annotations on it, and values
pub record Stays (one other : TypeTable) (Has : List ℕ → Type 0) (at : ElementRef) : Type 0 where
  pub names : NamesStay one other Has at
  pub fields : FieldsStay one other Has at
  pub element : ElementStays one other Has at
  pub presence : ElementPresenceStays one other Has at
  pub values : ValuesStay one other Has at

-- over the cut to a closed set with a source of the table
abbrev pub StaysInCut : TypeTable → NameSet → ElementRef → Type 0
StaysInCut table names at = IsRooted table names → Stays table (cut table names) (HasUnit (cut table names)) at
