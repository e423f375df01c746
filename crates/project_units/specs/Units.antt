-- The units of a run in the type table, each with its location: how units, and those of created sources, enter it.
use Rattle.std.specs.Prelude.{ℕ, nat_lt, List, [], ◌∷◌, ◌++◌, length, map, Result, Ok, Err, if◌then◌else◌}
use Rattle.std.specs.Option.{unwrap_or}
use Rattle.std.specs.FinMap as fin
use Rattle.apt_base.specs.declared.kinds.What.TheVariants.{Types, FileBytes}
use Rattle.decl_tree.specs.declared.compilation.UnitText.{UnitText}
use Rattle.decl_grammar.specs.declared.written.Lines.{Lines}
use Rattle.decl_grammar.specs.Grammar.{line_alone}
use Rattle.decl_limits.specs.Units.{Declared}
use Rattle.file_answers.specs.Flaws.{Flaw, Bad, TooLarge, Reading}
use Rattle.file_readings.specs.FileReadings.{reading_of}
use Rattle.element_table.specs.declared.part.Part.{Part}
use Rattle.element_table.specs.declared.part.Part.TheVariants.{Source}
use Rattle.element_table.specs.UnitNames.{unit_name}
use Rattle.element_table.specs.TypeTable.{Against, IsThere, IsFull}
use Rattle.unit_locations.specs.LocatedTable.{LocatedTable, path_of, enter_located}
use Rattle.project_units.specs.Limits.{limit_of}
use Rattle.apt_base.specs.Names.{NameSet, with_names, names_in}
use Rattle.project_units.specs.Refusals.{Refusal, BadGenerated, GeneratedDuplicate, past}

-- ---- units

-- why a unit can't be entered
pub data Obstacle : Type 0 where
  -- its name is there, and came of the file at this path
  Duplicate : (name first : List ℕ) → Obstacle
  -- with its types the table would have too many
  Full : Obstacle

-- a table, and the names of the units that were entered into it
pub record Entered : Type 0 where
  pub table : LocatedTable
  pub names : List (List ℕ)

-- units with the lines of their elements. A reading has as many of the one as of the other; a unit without lines would have all in line 1, so that none is left out here
abbrev pub with_lines : List UnitText → List Lines → List (UnitText × Lines)
with_lines [] lines = []
with_lines (unit ∷ units) [] = (unit, line_alone 1) ∷ with_lines units []
with_lines (unit ∷ units) (lines ∷ rest) = (unit, lines) ∷ with_lines units rest

-- the path of the file that gave the unit of this name. A table has one for each of its units, and this one stands for none
abbrev pub first_path : LocatedTable → List ℕ → List ℕ → List ℕ
first_path table name path = unwrap_or (path_of table name) path

abbrev pub enter_by : (name first : List ℕ) → Result LocatedTable Against → Result LocatedTable Obstacle
enter_by name first (Ok table) = Ok table
enter_by name first (Err IsThere) = Err (Duplicate name first)
enter_by name first (Err IsFull) = Err Full

-- a unit of the file at this path
abbrev pub enter_unit : Part → List ℕ → LocatedTable → UnitText × Lines → Result LocatedTable Obstacle
enter_unit part path table unit =
    enter_by (unit_name unit.0) (first_path table (unit_name unit.0) path) (enter_located part unit.0 (record { path = path; lines = unit.1 }) table)

-- what comes next, unless something stands against it
abbrev pub and_then : {A B E : Type 0} → Result A E → (A → Result B E) → Result B E
and_then (Ok value) next = next value
and_then (Err why) next = Err why

-- units are entered into a part of the table one after another, up to the first that can't be
abbrev pub enter_each : Part → List ℕ → LocatedTable → List (UnitText × Lines) → Result LocatedTable Obstacle
enter_each part path table [] = Ok table
enter_each part path table (unit ∷ units) = and_then (enter_unit part path table unit) (λ next. enter_each part path next units)

-- what the file at this path declares
abbrev pub enter_units : Part → List ℕ → LocatedTable → Declared → Result LocatedTable Obstacle
enter_units part path table declared = enter_each part path table (with_lines declared.0 declared.1)

-- the same among the sources, with the names of its units
abbrev pub enter_sources : List ℕ → LocatedTable → Declared → Result Entered Obstacle
enter_sources path table declared = and_then (enter_units Source path table declared) (λ next. Ok (record { table = next; names = map unit_name declared.0 }))

-- ---- created sources

-- What a created source at this path of the output reads as. No filer takes one that is longer than a file may be.
abbrev pub created_reading : List ℕ → List ℕ → Reading
created_reading path bytes = if nat_lt (limit_of FileBytes) (length bytes) then Err (TooLarge FileBytes) else reading_of path bytes

-- a table, and the names of all that was entered since the last round
pub record Gathered : Type 0 where
  pub table : LocatedTable
  pub roots : NameSet

-- the refusal of a run whose created source at this path gives no units
abbrev pub unread_at : List ℕ → Flaw → Refusal
unread_at path (Bad place) = BadGenerated path place
unread_at path (TooLarge what) = past what

-- the refusal of a run one of whose created units can't be entered
abbrev pub unentered : Obstacle → Refusal
unentered (Duplicate name first) = GeneratedDuplicate name
unentered Full = past Types

abbrev pub gather : NameSet → Result Entered Obstacle → Result Gathered Refusal
gather roots (Ok next) = Ok (record { table = next.table; roots = with_names roots next.names })
gather roots (Err obstacle) = Err (unentered obstacle)

abbrev pub enter_read : Gathered → List ℕ → Reading → Result Gathered Refusal
enter_read gathered path (Ok declared) = gather gathered.roots (enter_sources path gathered.table declared)
enter_read gathered path (Err flaw) = Err (unread_at path flaw)

-- a source, by its path and its bytes, is read, and its units are entered
abbrev pub enter_created : Gathered → List ℕ × List ℕ → Result Gathered Refusal
enter_created gathered created = enter_read gathered created.0 (created_reading created.0 created.1)

-- sources are read and entered one after another, up to the first that is refused
abbrev pub gather_all : Gathered → List (List ℕ × List ℕ) → Result Gathered Refusal
gather_all gathered [] = Ok gathered
gather_all gathered (created ∷ sources) = and_then (enter_created gathered created) (λ next. gather_all next sources)

-- the names of all that was entered, ascending
abbrev pub ascending : Result Gathered Refusal → Result Entered Refusal
ascending (Ok gathered) = Ok (record { table = gathered.table; names = names_in gathered.roots })
ascending (Err refusal) = Err refusal

abbrev pub enter_all : LocatedTable → List (List ℕ × List ℕ) → Result Entered Refusal
enter_all table sources = ascending (gather_all (record { table = table; roots = fin.empty }) sources)

-- ---- the first round

-- a project's table, of which all source units are roots
abbrev pub all_of : LocatedTable → Entered
all_of table = record { table = table; names = fin.keys table.table.source }

-- the names of all units, those of the sources first
abbrev pub unit_names : LocatedTable → List (List ℕ)
unit_names table = fin.keys table.table.source ++ fin.keys table.table.stub
