-- When a record stands with a store: the run of its key over its own units comes to its end without an error, and the record and the store have what that run leaves.
-- The children say what they say by the names and the commands of their processors; that a version tells their programs apart is said elsewhere.
use Rattle.std.specs.Prelude.{◌≡◌, ℕ, Bool, false, List, map, Option, Ok}
use Rattle.std.specs.List.{AllByRecursion}
use Rattle.apt_outside.specs.Child.{Says}
use Rattle.apt_outside.specs.Files.{Files}
use Rattle.element_table.specs.declared.part.Part.TheVariants.{Stub}
use Rattle.element_table.specs.TypeTable.{TypeTable}
use Rattle.unit_locations.specs.LocatedTable.{LocatedTable, nothing_located}
use Rattle.record_forms.specs.declared.record.Key.{Key}
use Rattle.record_forms.specs.declared.record.Record.{Record}
use Rattle.run_entries.specs.Stands.{Remembered, StandsFor}
use Rattle.project_units.specs.declared.project.Project.{Project}
use Rattle.project_units.specs.Creations.{files_among}
use Rattle.project_units.specs.Plans.{plan_of}
use Rattle.round_engine.specs.declared.running.Finished as declared
use Rattle.round_engine.specs.Run.{Finished, has_error, run_of}
use Rattle.round_engine.specs.Clean.{FinishesAs}
use Rattle.tree_store.specs.declared.sources.RawSource.{RawSource}
use Rattle.project_reading.specs.declared.sources.ReadSource.{ReadSource}
use Rattle.project_reading.specs.Configuration.{Options}
use Rattle.project_reading.specs.Project.{read_all, enter_all, named, Keeps}
use Rattle.run_record.specs.Shapes.{sources_shaped, rounds_of}
use Rattle.run_record.specs.Next.{IsIn}

-- ---- the units of a record

-- the stubs of a type table are those of a key: its stub files are read, and their units enter an empty table
pub record HasStubs (key : Key) (table : TypeTable) : Type 0 where
  pub files : List RawSource
  pub named : map named files ≡ key.stubs
  pub read : List ReadSource
  pub is_read : read_all Stub files ≡ Ok read
  pub stubs : LocatedTable
  pub entered : enter_all Stub nothing_located read ≡ Ok stubs
  pub same : table.stub ≡ stubs.table.stub

-- a type table is that of a record: its stubs are those of the key, and its sources are the initial units
pub record IsTableOf (value : Record) (table : TypeTable) : Type 0 where
  pub stubs : HasStubs value.key table
  pub sources : sources_shaped table ≡ value.initial

-- ---- a record

-- what a run leaves
abbrev pub remembered : Finished → Remembered
remembered run = record { hellos = run.hellos; rounds = rounds_of run.table.table run.past; processed = run.processed; files = files_among run.made }

pub record Stands (says : Says) (store : ℕ → Option (List ℕ)) (value : Record) : Type 0 where
  pub table : LocatedTable
  pub is : IsTableOf value table.table
  pub run : Finished
  pub comes : run_of says (plan_of value.key) table ≡ Ok run
  pub clean : has_error run.messages ≡ false
  pub stands : StandsFor (remembered run) store value

-- It stands as the record of this finished run over this project, where the project was read and the run has no error: in every store that has the run's files under
-- their numbers, whatever the children say for which the run is this one.
abbrev pub StandsAs : Project → declared.Finished → Record → Type 0
StandsAs project run value =
    (tells : Bool) (options : Options) (tree : Files) (says : Says) (started : ℕ) (store : ℕ → Option (List ℕ))
    → Keeps tells options tree project → FinishesAs (run_of says (plan_of project.key) project.initial) started run → has_error run.messages ≡ false
    → AllByRecursion (IsIn store) run.files → Stands says store value
