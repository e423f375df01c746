-- What reading a project gives: its configuration, its sources and stubs, and their units, which are entered one after another.
use Rattle.std.specs.Prelude.{◌≡◌, ℕ, not, true, List, Result, Ok, Err, IfErr}
use Rattle.apt_base.specs.declared.kinds.What.TheVariants as what
use Rattle.decl_parser.specs.declared.parsing.FileFault.{FileFault}
use Rattle.decl_parser.specs.declared.parsing.FileFault.TheVariants as file
use Rattle.file_answers.specs.Flaws.{Bad, TooLarge}
use Rattle.element_table.specs.declared.part.Part.{Part}
use Rattle.unit_locations.specs.LocatedTable.{LocatedTable}
use Rattle.tree_store.specs.declared.fault.ConfigReadFault.{ConfigReadFault}
use Rattle.tree_store.specs.declared.fault.ConfigReadFault.TheVariants as reads
use Rattle.tree_store.specs.declared.fault.SourceReadFault.{SourceReadFault}
use Rattle.tree_store.specs.declared.fault.SourceReadFault.TheVariants as source_reads
use Rattle.tree_store.specs.declared.sources.RawSource.{RawSource}
use Rattle.tree_store.specs.Config.{AreLists, IsShort}
use Rattle.project_config.specs.declared.fault.ConfigFault.{ConfigFault}
use Rattle.project_config.specs.declared.fault.ConfigFault.TheVariants as wrong
use Rattle.project_config.specs.Reading.{has_order}
use Rattle.project_units.specs.declared.unit_fault.UnitFault.{UnitFault}
use Rattle.project_units.specs.declared.unit_fault.UnitFault.TheVariants as unit
use Rattle.project_units.specs.Limits.{limit_of}
use Rattle.project_units.specs.Refusals as stop
use Rattle.project_units.specs.Refusals.{DuplicateType, Tree, past}
use Rattle.project_reading.specs.declared.configuration.RawConfiguration.{RawConfiguration}
use Rattle.project_reading.specs.declared.sources.ReadSource.{ReadSource}
use Rattle.project_reading.specs.declared.status.Status.{Status}
use Rattle.project_reading.specs.Configuration.{Configuration, refusal_by, IsPlaceOf}
use Rattle.project_reading.specs.Project.{unread_at, StopsAt}
use Rattle.project_reading.specs.Verdicts.{Verdict, Done, Errors, Refused, Failed, Input, Memory, verdict, is_tree}

-- ---- faults, as the end of the call

-- a file of the configuration that was not read
abbrev pub of_read : ConfigReadFault → Verdict
of_read reads.Failed = Failed Tree
of_read (reads.TooLarge file) = Refused (past what.ConfigBytes)
of_read reads.Memory = Memory

-- what is wrong with the configuration
abbrev pub of_config : ConfigFault → Verdict
of_config wrong.Json = Refused (refusal_by wrong.Json)
of_config (wrong.Item place) = Refused (refusal_by (wrong.Item place))
of_config (wrong.ServiceLine line) = Refused (refusal_by (wrong.ServiceLine line))
of_config (wrong.KindLine line) = Refused (refusal_by (wrong.KindLine line))
of_config wrong.TooManyProcessors = Refused (refusal_by wrong.TooManyProcessors)
of_config (wrong.UnknownProcessor name) = Refused (refusal_by (wrong.UnknownProcessor name))
of_config wrong.Memory = Memory

-- sources and stubs that were not read
abbrev pub of_sources : SourceReadFault → Verdict
of_sources source_reads.Failed = Failed Tree
of_sources (source_reads.TooLarge limit) = Refused (past limit)
of_sources source_reads.Memory = Memory

-- why a file of this part, at this path, is refused
abbrev pub of_unread : Part → List ℕ → FileFault → Verdict
of_unread part path (file.Bad place) = Refused (unread_at part path (Bad place))
of_unread part path (file.TooLarge limit) = Refused (unread_at part path (TooLarge limit))
of_unread part path file.Memory = Memory

-- why the units of the file at this path are not entered
abbrev pub of_units : List ℕ → UnitFault → Verdict
of_units path (unit.Duplicate name first) = Refused (DuplicateType name first path)
of_units path unit.TooMany = Refused (past what.Types)
of_units path unit.Memory = Memory

-- ---- what came of a part

-- it is refused as the definition has it, unless the tree failed or memory was wanted
abbrev pub RefusesAs : {A : Type 0} → Result A stop.Refusal → Verdict → Type 0
RefusesAs due (Refused refusal) = due ≡ Err refusal
RefusesAs due (Failed object) = is_tree object ≡ true
RefusesAs due (Input fault) = ⊥
RefusesAs due Memory = Unit {0}
RefusesAs due Done = ⊥
RefusesAs due (Errors count) = ⊥

-- whatever the tree tells, a refusal of a file of the configuration has a place of that file, and one by a limit has that limit
abbrev pub IsDueRead : Verdict → Type 0
IsDueRead (Refused (stop.BadConfig path place)) = IsPlaceOf path place
IsDueRead (Refused (stop.TooLarge what limit)) = limit ≡ limit_of what
IsDueRead other = Unit {0}

-- it came to what the definition has, where means says what a value of the code is there, or it is refused
abbrev pub ComesAs : {A T : Type 0} → Result A stop.Refusal → (T → A) → Result T Status → Type 0
ComesAs due means (Ok value) = due ≡ Ok (means value)
ComesAs due means (Err status) = RefusesAs due (verdict status)

-- it came to a value of the definition itself
abbrev pub ComesTo : {A : Type 0} → Result A stop.Refusal → Result A Status → Type 0
ComesTo due (Ok value) = due ≡ Ok value
ComesTo due (Err status) = RefusesAs due (verdict status)

-- ---- the configuration

abbrev pub shown_configuration : RawConfiguration → Configuration
shown_configuration raw = record { config = raw.config; lists = raw.lists }

-- whatever the tree tells, each file that was read is within its limit, and that of services was read only where it is asked for
pub record IsWithin (raw : RawConfiguration) : Type 0 where
  pub config : IsShort raw.config
  pub lists : AreLists (not (has_order raw.config)) raw.lists

-- ---- the units

-- the units of a file, or of several, were entered, or they are refused
abbrev pub Enters : Result LocatedTable stop.Refusal → LocatedTable → Result Unit Status → Type 0
Enters due table (Ok done) = due ≡ Ok table
Enters due table (Err status) = RefusesAs due (verdict status)

-- files of one part are refused by the least path of one that has no reading, or passes a limit
abbrev pub StopsLeast : Part → List RawSource → Result (List ReadSource) Status → Type 0
StopsLeast part sources result = IfErr result (λ status. (refusal : stop.Refusal) → verdict status ≡ Refused refusal → StopsAt part sources refusal)
