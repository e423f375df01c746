-- A project that is read: what its run is told, and its type table with the location of each unit. All files are read before any is looked into: those of the configuration, the sources, and the stubs.
-- Then the configuration is looked into, then each stub in order of path, then each source, and then their units enter the table in this order.
use Rattle.std.specs.Prelude.{◌≡◌, ◌++◌, ℕ, Bool, List, [], ◌∷◌, map, Result, Ok, Err}
use Rattle.std.specs.List.{AllByRecursion}
use Rattle.apt_base.specs.declared.kinds.What.{What}
use Rattle.apt_base.specs.declared.kinds.What.TheVariants.{Types}
use Rattle.apt_outside.specs.Count.{Told}
use Rattle.apt_outside.specs.Files.{Files}
use Rattle.file_answers.specs.Flaws.{Flaw, Bad, TooLarge, Reading, parsed_of}
use Rattle.file_readings.specs.FileReadings.{reading_of}
use Rattle.element_table.specs.declared.part.Part.{Part}
use Rattle.element_table.specs.declared.part.Part.TheVariants.{Source, Stub}
use Rattle.unit_locations.specs.LocatedTable.{LocatedTable, nothing_located}
use Rattle.decl_parser.specs.Parsed.{shown_parsed}
use Rattle.tree_store.specs.declared.sources.RawSource.{RawSource}
use Rattle.tree_store.specs.declared.sources.RawSources.{RawSources}
use Rattle.tree_store.specs.Sources.{sources_of, IsBefore}
use Rattle.project_units.specs.declared.project.Project.{Project}
use Rattle.project_units.specs.Refusals.{Refusal, BadStub, BadSource, DuplicateType, past}
use Rattle.project_units.specs.Plans.{Plan, plan_of}
use Rattle.project_units.specs.Units.{Obstacle, Duplicate, Full, enter_units, and_then}
use Rattle.project_reading.specs.declared.sources.ReadSource.{ReadSource}
use Rattle.project_reading.specs.declared.sources.ReadSources.{ReadSources}
use Rattle.project_reading.specs.declared.sources.Tables.{Tables}
use Rattle.project_reading.specs.Configuration.{Options, Configuration, files_of, plan_by, IsKeyOf}

-- ---- the files are read

-- the stub files and the source files
abbrev pub raw_files : List RawSource → List RawSource → RawSources
raw_files stubs sources = record { sources = sources; stubs = stubs }

-- the refusal of a project whose file at this path has no reading: a source, or a stub
abbrev pub bad_at : Part → List ℕ → ℕ → Refusal
bad_at Source path place = BadSource path place
bad_at Stub path place = BadStub path place

-- so, or by the limit that it passes
abbrev pub unread_at : Part → List ℕ → Flaw → Refusal
unread_at part path (Bad place) = bad_at part path place
unread_at part path (TooLarge what) = past what

abbrev pub read_by : Part → List ℕ → Reading → Result ReadSource Refusal
read_by part path (Ok declared) = Ok (record { path = path; declared = parsed_of declared })
read_by part path (Err flaw) = Err (unread_at part path flaw)

abbrev pub read_source : Part → RawSource → Result ReadSource Refusal
read_source part source = read_by part source.path (reading_of source.path source.bytes)

-- files of one part behind those that were read, up to the first that is refused
abbrev pub read_from : Part → List ReadSource → List RawSource → Result (List ReadSource) Refusal
read_from part done [] = Ok done
read_from part done (source ∷ sources) = and_then (read_source part source) (λ read. read_from part (done ++ read ∷ []) sources)

abbrev pub read_all : Part → List RawSource → Result (List ReadSource) Refusal
read_all part sources = read_from part [] sources

-- the stubs that were read, with the sources
abbrev pub read_beside : List RawSource → List ReadSource → Result ReadSources Refusal
read_beside sources stubs = and_then (read_all Source sources) (λ read. Ok (record { stubs = stubs; sources = read }))

-- all stubs and then all sources
abbrev pub read_both : RawSources → Result ReadSources Refusal
read_both files = and_then (read_all Stub files.stubs) (read_beside files.sources)

-- ---- their units are entered

-- what comes of the units of the file at this path
abbrev pub entered_by : List ℕ → Result LocatedTable Obstacle → Result LocatedTable Refusal
entered_by path (Ok table) = Ok table
entered_by path (Err (Duplicate name first)) = Err (DuplicateType name first path)
entered_by path (Err Full) = Err (past Types)

abbrev pub enter_next : Part → LocatedTable → ReadSource → Result LocatedTable Refusal
enter_next part table source = entered_by source.path (enter_units part source.path table (shown_parsed source.declared))

-- files of one part are entered one after another, up to the first of which a unit can't be
abbrev pub enter_all : Part → LocatedTable → List ReadSource → Result LocatedTable Refusal
enter_all part table [] = Ok table
enter_all part table (source ∷ sources) = and_then (enter_next part table source) (λ next. enter_all part next sources)

-- the table of the stubs alone, and that of the stubs and the sources
abbrev pub enter_behind : List ReadSource → LocatedTable → Result Tables Refusal
enter_behind sources stubs = and_then (enter_all Source stubs sources) (λ all. Ok (record { stubs = stubs; initial = all }))

-- the stubs enter an empty table, and then the sources enter it
abbrev pub enter_both : ReadSources → Result Tables Refusal
enter_both read = and_then (enter_all Stub nothing_located read.stubs) (enter_behind read.sources)

-- the tables of these files: all are read before the first is entered
abbrev pub tables_of : RawSources → Result Tables Refusal
tables_of files = and_then (read_both files) enter_both

-- ---- a project that was read

-- what its run is told, and its type table
pub record Read : Type 0 where
  pub plan : Plan
  pub table : LocatedTable

abbrev pub read_with : Plan → Result Tables Refusal → Result Read Refusal
read_with plan entered = and_then entered (λ tables. Ok (record { plan = plan; table = tables.initial }))

-- files within their limits: what they say, the configuration before the stubs and the sources
abbrev pub look_into : Options → Configuration → RawSources → Result Read Refusal
look_into options configuration files = and_then (plan_by options configuration) (λ plan. read_with plan (tables_of files))

-- the sources and the stubs of a tree, or the limit that they pass
abbrev pub within_limits : Result RawSources What → Result RawSources Refusal
within_limits (Ok files) = Ok files
within_limits (Err what) = Err (past what)

abbrev pub read_behind : Options → Files → Configuration → Result Read Refusal
read_behind options project configuration = and_then (within_limits (sources_of project)) (look_into options configuration)

-- a project with these options of the words
abbrev pub read_of : Options → Files → Result Read Refusal
read_of options project = and_then (files_of project) (read_behind options project)

-- ---- the least path

-- Reading stops at the first file of its part, in order of path, that is refused: all before it were read.
pub record StopsAt (part : Part) (sources : List RawSource) (refusal : Refusal) : Type 0 where
  pub before : List RawSource
  pub source : RawSource
  pub after : List RawSource
  pub split : sources ≡ before ++ source ∷ after
  pub read : List ReadSource
  pub others_read : read_all part before ≡ Ok read
  pub refused : read_source part source ≡ Err refusal
  pub path_is : (path : List ℕ) (place : ℕ) → refusal ≡ bad_at part path place → path ≡ source.path

-- it was read
abbrev pub IsRead : Part → RawSource → Type 0
IsRead part source = (read : ReadSource) × (read_source part source ≡ Ok read)

-- Of these files of one part one is refused, and all with a lesser path were read.
pub record IsLeast (part : Part) (sources : List RawSource) (refusal : Refusal) : Type 0 where
  pub before : List RawSource
  pub source : RawSource
  pub after : List RawSource
  pub split : sources ≡ before ++ source ∷ after
  pub refused : read_source part source ≡ Err refusal
  pub lesser : AllByRecursion (λ (other : RawSource). IsBefore other.path source.path → IsRead part other) sources

-- where the stubs of a project are refused, or its sources, it is for the least of them by its path that is
pub record LeastIsRefused : Type 0 where
  pub stubs : (files : Files) (raw : RawSources) (refusal : Refusal) → sources_of files ≡ Ok raw → read_all Stub raw.stubs ≡ Err refusal → IsLeast Stub raw.stubs refusal
  pub sources : (files : Files) (raw : RawSources) (refusal : Refusal) → sources_of files ≡ Ok raw → read_all Source raw.sources ≡ Err refusal → IsLeast Source raw.sources refusal

-- ---- the files that are kept

-- a file by its path and its bytes
abbrev pub named : RawSource → List ℕ × List ℕ
named source = (source.path, source.bytes)

-- A project has the key of its configuration, with these options of the words, and of its stubs; it keeps the stubs that were read, and has the units of the stubs alone
-- beside those of all files. The files are those of its tree, where that tells what it holds.
pub record KeepsAll (tells : Bool) (options : Options) (files : Files) (project : Project) : Type 0 where
  pub configuration : Configuration
  pub is_configuration : Told tells (files_of files ≡ Ok configuration)
  pub given : RawSources
  pub are_given : Told tells (sources_of files ≡ Ok given)
  pub key : IsKeyOf options configuration (map named given.stubs) project.key
  pub tables : tables_of given ≡ Ok (record { stubs = project.stubs; initial = project.initial })

-- the same, as a word that proofs above do not open
unfoldable pub Keeps : Bool → Options → Files → Project → Type 0
Keeps tells options files project = KeepsAll tells options files project

-- a project that was read
abbrev pub shown_project : Project → Read
shown_project project = record { plan = plan_of project.key; table = project.initial }
