-- The types of a recorded build: the units of a round, which enter an empty table one after another.
use Rattle.std.specs.Prelude.{◌≡◌, ℕ, List, [], ◌∷◌, take, Option, Some, None, Result, Ok, Err, if◌then◌else◌}
use Rattle.std.specs.Str.{bytes_eq}
use Rattle.apt_base.specs.Fields.{◌>>=◌}
use Rattle.apt_base.specs.declared.fault.FormFault.{FormFault}
use Rattle.apt_base.specs.declared.fault.FormFault.TheVariants.{Bad, Memory}
use Rattle.decl_syntax.specs.Reading.{whole_unit}
use Rattle.decl_tree.specs.declared.compilation.UnitText.{UnitText}
use Rattle.element_table.specs.UnitNames.{unit_name}
use Rattle.element_table.specs.TypeTable.{TypeTable, Against, empty_table, outcome_of}
use Rattle.element_table.specs.declared.part.Part.TheVariants.{Source}
use Rattle.record_forms.specs.declared.record.Record.{Record}
use Rattle.record_forms.specs.declared.record.OldRound.{OldRound}

-- the unit of a shape, where it has the name beside it
unfoldable pub unit_at : List ℕ × List ℕ → Option UnitText
unit_at named = do
  unit ← whole_unit named.1
  if bytes_eq (unit_name unit) named.0 then Some unit else None

abbrev pub table_in : Result TypeTable Against → Option TypeTable
table_in (Ok table) = Some table
table_in (Err why) = None

-- the table with a unit more among its sources; none where its name is there, or where there would be more than 50,000 types, nested ones included
unfoldable pub enter_named : TypeTable → List ℕ × List ℕ → Option TypeTable
enter_named table named = do
  unit ← unit_at named
  table_in (outcome_of Source unit table)

unfoldable pub enter_all : TypeTable → List (List ℕ × List ℕ) → Option TypeTable
enter_all table [] = Some table
enter_all table (named ∷ others) = do
  next ← enter_named table named
  enter_all next others

-- with the units that entered before each of these rounds
unfoldable pub enter_rounds : TypeTable → List OldRound → Option TypeTable
enter_rounds table [] = Some table
enter_rounds table (round ∷ others) = do
  next ← enter_all table round.entered
  enter_rounds next others

-- the table of the round with this number, counted from 1: the initial units, and those that entered up to it
unfoldable pub table_at : Record → ℕ → Option TypeTable
table_at value round = do
  table ← enter_all empty_table value.initial
  enter_rounds table (take round value.rounds)

-- what a function that enters returned, and the table that it left, is what is due, unless memory ran out
abbrev pub Enters : Result Unit FormFault → Option TypeTable → TypeTable → Type 0
Enters (Ok done) due table = due ≡ Some table
Enters (Err Bad) due table = due ≡ None
Enters (Err Memory) due table = Unit {0}
