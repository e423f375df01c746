-- What reading and entering units gives.
use Rattle.std.specs.Prelude.{◌≡◌, ℕ, List, Result, Ok, Err}
use Rattle.decl_parser.specs.declared.parsing.Parsed.{Parsed}
use Rattle.decl_parser.specs.Parsed.{shown_parsed}
use Rattle.decl_parser.specs.declared.parsing.FileFault.{FileFault}
use Rattle.decl_parser.specs.declared.parsing.FileFault.TheVariants as file
use Rattle.file_answers.specs.Flaws.{Bad, TooLarge}
use Rattle.element_table.specs.declared.fault.EnterFault.{EnterFault}
use Rattle.element_table.specs.declared.fault.EnterFault.TheVariants as enter
use Rattle.element_table.specs.UnitNames.{unit_name}
use Rattle.unit_locations.specs.LocatedTable.{LocatedTable}
use Rattle.project_units.specs.declared.unit_fault.UnitFault.{UnitFault}
use Rattle.project_units.specs.declared.unit_fault.UnitFault.TheVariants as code
use Rattle.project_units.specs.declared.refusal.Refusal as declared
use Rattle.project_units.specs.Refusals.{Refusal, Stop, Refused, Failed, Memory}
use Rattle.project_units.specs.Faults.{stop_of}
use Rattle.apt_base.specs.Names.{NameSet}
use Rattle.project_units.specs.Units.{Obstacle, Duplicate, Full, Entered, Gathered, first_path, enter_sources, gather, unread_at, unentered, enter_created}

-- the table did not take a unit of the file at this path, which comes back
abbrev pub Reports : LocatedTable → List ℕ → EnterFault → UnitFault → Type 0
Reports table path fault code.Memory = Unit {0}
Reports table path (enter.Duplicate unit) (code.Duplicate name first) = (name ≡ unit_name unit) × (first ≡ first_path table name path)
Reports table path (enter.TooMany unit) code.TooMany = Unit {0}
Reports table path fault other = ⊥

-- a table and its names so far
abbrev pub gathered : LocatedTable → NameSet → Gathered
gathered table roots = record { table = table; roots = roots }

-- this stands against a unit, as it is to, unless memory was wanted
abbrev pub Obstructs : {A : Type 0} → Result A Obstacle → UnitFault → Type 0
Obstructs outcome (code.Duplicate name first) = outcome ≡ Err (Duplicate name first)
Obstructs outcome code.TooMany = outcome ≡ Err Full
Obstructs outcome code.Memory = Unit {0}

-- units were entered, or something stands against the first that can't be
abbrev pub EntersUnits : Result LocatedTable Obstacle → LocatedTable → Result Unit UnitFault → Type 0
EntersUnits outcome table (Ok done) = outcome ≡ Ok table
EntersUnits outcome table (Err fault) = Obstructs outcome fault

-- they were entered, and have these names
abbrev pub EntersNamed : Result Entered Obstacle → LocatedTable → Result (List (List ℕ)) UnitFault → Type 0
EntersNamed outcome table (Ok names) = outcome ≡ Ok (record { table = table; names = names })
EntersNamed outcome table (Err fault) = Obstructs outcome fault

-- ---- created sources

-- a created source is refused as the definition has it, unless memory was wanted
abbrev pub RefusesAs : {A : Type 0} → Result A Refusal → Stop → Type 0
RefusesAs outcome (Refused refusal) = outcome ≡ Err refusal
RefusesAs outcome (Failed object) = ⊥
RefusesAs outcome Memory = Unit {0}

-- why a created source at this path gives no units, as a stop of the run
abbrev pub of_unread : List ℕ → FileFault → Stop
of_unread path (file.Bad place) = Refused (unread_at path (Bad place))
of_unread path (file.TooLarge what) = Refused (unread_at path (TooLarge what))
of_unread path file.Memory = Memory

-- why its units can't be entered
abbrev pub of_units : UnitFault → Stop
of_units (code.Duplicate name first) = Refused (unentered (Duplicate name first))
of_units code.TooMany = Refused (unentered Full)
of_units code.Memory = Memory

-- a created source was entered, or it is refused
abbrev pub Gathers : Result Gathered Refusal → LocatedTable → NameSet → Result Unit declared.Refusal → Type 0
Gathers outcome table roots (Ok done) = outcome ≡ Ok (record { table = table; roots = roots })
Gathers outcome table roots (Err refusal) = RefusesAs outcome (stop_of refusal)

-- what the source at this path declares was entered
abbrev pub GathersParsed : List ℕ → Parsed → LocatedTable → NameSet → LocatedTable → NameSet → Result Unit declared.Refusal → Type 0
GathersParsed path parsed table roots table' roots' result = Gathers (gather roots (enter_sources path table (shown_parsed parsed))) table' roots' result

-- the source at this path was read and entered
abbrev pub GathersSource : List ℕ → List ℕ → LocatedTable → NameSet → LocatedTable → NameSet → Result Unit declared.Refusal → Type 0
GathersSource path content table roots table' roots' result = Gathers (enter_created (gathered table roots) (path, content)) table' roots' result

-- all were entered, and these are the names of the new units, or the first that can't be is refused
abbrev pub EntersAll : Result Entered Refusal → LocatedTable → Result (List (List ℕ)) declared.Refusal → Type 0
EntersAll outcome table (Ok names) = outcome ≡ Ok (record { table = table; names = names })
EntersAll outcome table (Err refusal) = RefusesAs outcome (stop_of refusal)
