-- How the sources and the stubs of a project are read one by one, and their units entered.
use Rattle.std.proofs.Common.{◌≡◌, ℕ, List, [], ◌∷◌, ◌++◌, Result, Ok, Err, refl, sym, ap, ◌∙◌, subst}
use Rattle.std.specs.Prelude.{IfErr}
use Rattle.decl_parser.specs.declared.parsing.FileFault.{FileFault}
use Rattle.decl_parser.specs.declared.parsing.FileFault.TheVariants as file
use Rattle.decl_parser.specs.declared.parsing.Parsed.{Parsed}
use Rattle.decl_parser.specs.Parsed.{shown_parsed}
use Rattle.file_answers.specs.Flaws.{Bad, TooLarge, Reading, parsed_of}
use Rattle.file_readings.specs.FileReadings.{reading_of, Parses}
use Rattle.element_table.specs.declared.part.Part.{Part}
use Rattle.element_table.specs.declared.part.Part.TheVariants.{Source, Stub}
use Rattle.unit_locations.specs.LocatedTable.{LocatedTable, nothing_located}
use Rattle.tree_store.specs.declared.sources.RawSource.{RawSource}
use Rattle.tree_store.specs.declared.sources.RawSources.{RawSources}
use Rattle.project_units.specs.declared.unit_fault.UnitFault.{UnitFault}
use Rattle.project_units.specs.declared.unit_fault.UnitFault.TheVariants as unit
use Rattle.project_units.specs.Refusals.{Refusal, BadStub, BadSource, past}
use Rattle.project_units.specs.Units.{Obstacle, Duplicate, Full, enter_units, and_then}
use Rattle.project_units.specs.Entering.{Obstructs}
use Rattle.project_reading.specs.declared.sources.ReadSource.{ReadSource}
use Rattle.project_reading.specs.declared.sources.ReadSources.{ReadSources}
use Rattle.project_reading.specs.declared.sources.Tables.{Tables}
use Rattle.project_reading.specs.declared.status.Status.{Status}
use Rattle.project_reading.specs.Verdicts.{Verdict, Done, Errors, Refused, Failed, Input, Memory, OrMemory, verdict}
use Rattle.project_reading.specs.Project.{bad_at, read_by, read_source, read_from, read_all, read_beside, read_both, entered_by, enter_next, enter_all, enter_behind, enter_both, tables_of, StopsAt}
use Rattle.project_reading.specs.Entering.{of_unread, of_units, RefusesAs, IsDueRead, ComesTo, StopsLeast}
use Rattle.project_reading.proofs.Refusing.{refuses_or, refuses_then, refuses_behind}

-- ---- one file is read

module _ (part : Part) (source : RawSource) where
  abbrev here : Reading
  here = reading_of source.path source.bytes

  pub read-as : (parsed : Parsed) (read : ReadSource) → Parses here (Ok parsed) → read ≡ record { path = source.path; declared = parsed } → read_source part source ≡ Ok read
  read-as parsed read is read_is = ap (read_by part source.path) is ∙ ap Ok (sym read_is)

  refused : (fault : FileFault) → Parses here (Err fault) → RefusesAs (read_source part source) (of_unread part source.path fault)
  refused (file.Bad place) is = ap (read_by part source.path) is
  refused (file.TooLarge limit) is = ap (read_by part source.path) is
  refused file.Memory is = tt

  pub refused-as : (fault : FileFault) (v : Verdict) → Parses here (Err fault) → v ≡ of_unread part source.path fault → RefusesAs (read_source part source) v
  refused-as fault v is due = subst (RefusesAs (read_source part source)) (sym due) (refused fault is)

-- ---- more files

module _ (part : Part) where
  -- one that was read decides nothing
  pub reads-more : (done : List ReadSource) (source : RawSource) (sources : List RawSource) (read : ReadSource) → read_source part source ≡ Ok read → read_from part done (source ∷ sources) ≡ read_from part (done ++ read ∷ []) sources
  reads-more done source sources read is = ap (λ o. and_then o (λ r. read_from part (done ++ r ∷ []) sources)) is

  -- the first that was not
  pub reads-no-more : (done : List ReadSource) (source : RawSource) (sources : List RawSource) (v : Verdict) → RefusesAs (read_source part source) v → RefusesAs (read_from part done (source ∷ sources)) v
  reads-no-more done source sources v is = refuses_then (read_source part source) v (λ r. read_from part (done ++ r ∷ []) sources) is

-- ---- the file at which reading stops

-- a refusal that names a path names that of the file
path_by : (part : Part) (source : RawSource) (path : List ℕ) (place : ℕ) (reading : Reading) → read_by part source.path reading ≡ Err (bad_at part path place) → path ≡ source.path
path_by Source source path place (Ok declared) e = absurd (let same : Ok (record { path = source.path; declared = parsed_of declared }) ≡ Err (BadSource path place) = e in cc)
path_by Source source path place (Err (Bad at)) e = (let same : Err (BadSource source.path at) ≡ Err (BadSource path place) = e in cc)
path_by Source source path place (Err (TooLarge what)) e = absurd (let same : Err (past what) ≡ Err (BadSource path place) = e in cc)
path_by Stub source path place (Ok declared) e = absurd (let same : Ok (record { path = source.path; declared = parsed_of declared }) ≡ Err (BadStub path place) = e in cc)
path_by Stub source path place (Err (Bad at)) e = (let same : Err (BadStub source.path at) ≡ Err (BadStub path place) = e in cc)
path_by Stub source path place (Err (TooLarge what)) e = absurd (let same : Err (past what) ≡ Err (BadStub path place) = e in cc)

-- the same from files that were read before
record StopsFrom (part : Part) (done : List ReadSource) (sources : List RawSource) (refusal : Refusal) : Type 0 where
  before : List RawSource
  source : RawSource
  after : List RawSource
  split : sources ≡ before ++ source ∷ after
  read : List ReadSource
  others_read : read_from part done before ≡ Ok read
  refused_so : read_source part source ≡ Err refusal

module _ (part : Part) (refusal : Refusal) where
  -- the first file is refused
  stops_here : (done : List ReadSource) (source : RawSource) (sources : List RawSource) → read_source part source ≡ Err refusal → StopsFrom part done (source ∷ sources) refusal
  stops_here done source sources is = record { before = []; source = source; after = sources; split = refl; read = done; others_read = refl; refused_so = is }

  -- a later one is
  stops_later : (done : List ReadSource) (source : RawSource) (sources : List RawSource) (read : ReadSource) → read_source part source ≡ Ok read → StopsFrom part (done ++ read ∷ []) sources refusal → StopsFrom part done (source ∷ sources) refusal
  stops_later done source sources read is rest = record {
    before = source ∷ rest.before;
    source = rest.source;
    after = rest.after;
    split = ap (λ ss. source ∷ ss) rest.split;
    read = rest.read;
    others_read = reads-more part done source rest.before read is ∙ rest.others_read;
    refused_so = rest.refused_so;
  }

  abbrev why_of : Result (List ReadSource) Refusal → Refusal
  why_of (Ok read) = refusal
  why_of (Err why) = why

  by_source : (done : List ReadSource) (source : RawSource) (sources : List RawSource) (outcome : Result ReadSource Refusal) → read_source part source ≡ outcome
      → ((read : ReadSource) → read_from part (done ++ read ∷ []) sources ≡ Err refusal → StopsFrom part (done ++ read ∷ []) sources refusal)
      → and_then outcome (λ r. read_from part (done ++ r ∷ []) sources) ≡ Err refusal → StopsFrom part done (source ∷ sources) refusal
  by_source done source sources (Err why) is then e = stops_here done source sources (is ∙ ap Err (ap why_of e))
  by_source done source sources (Ok read) is then e = stops_later done source sources read is (then read e)

  stops : (done : List ReadSource) (sources : List RawSource) → read_from part done sources ≡ Err refusal → StopsFrom part done sources refusal
  stops done [] is = absurd (let e : Ok done ≡ Err refusal = is in cc)
  stops done (source ∷ sources) is = by_source done source sources (read_source part source) refl (λ read. stops (done ++ read ∷ []) sources) is

  pub stops_at : (sources : List RawSource) → read_all part sources ≡ Err refusal → StopsAt part sources refusal
  stops_at sources is =
      let from = stops [] sources is in
      record {
        before = from.before;
        source = from.source;
        after = from.after;
        split = from.split;
        read = from.read;
        others_read = from.others_read;
        refused = from.refused_so;
        path_is = λ path place same. path_by part from.source path place (reading_of from.source.path from.source.bytes) (from.refused_so ∙ ap Err same);
      }

-- files that are refused are so by the least path
pub stops_least : (part : Part) (sources : List RawSource) (result : Result (List ReadSource) Status) → ComesTo (read_all part sources) result → StopsLeast part sources result
stops_least part sources (Ok read) comes = tt
stops_least part sources (Err status) comes = λ refusal is. stops_at part refusal sources (subst (RefusesAs (read_all part sources)) is comes)

-- ---- the units of one are entered

module _ (path : List ℕ) where
  obstructed : (outcome : Result LocatedTable Obstacle) (fault : UnitFault) → Obstructs outcome fault → RefusesAs (entered_by path outcome) (of_units path fault)
  obstructed outcome (unit.Duplicate name first) is = ap (entered_by path) is
  obstructed outcome unit.TooMany is = ap (entered_by path) is
  obstructed outcome unit.Memory is = tt

  pub obstructed-as : (outcome : Result LocatedTable Obstacle) (fault : UnitFault) (v : Verdict) → Obstructs outcome fault → OrMemory (of_units path fault) v → RefusesAs (entered_by path outcome) v
  obstructed-as outcome fault v is due = refuses_or (entered_by path outcome) (of_units path fault) v (obstructed outcome fault is) due

-- ---- those of more

module _ (part : Part) where
  pub enters-more : (table next : LocatedTable) (source : ReadSource) (sources : List ReadSource) → enter_next part table source ≡ Ok next → enter_all part table (source ∷ sources) ≡ enter_all part next sources
  enters-more table next source sources is = ap (λ o. and_then o (λ n. enter_all part n sources)) is

  pub enters-no-more : (table : LocatedTable) (source : ReadSource) (sources : List ReadSource) (v : Verdict) → RefusesAs (enter_next part table source) v → RefusesAs (enter_all part table (source ∷ sources)) v
  enters-no-more table source sources v is = refuses_then (enter_next part table source) v (λ n. enter_all part n sources) is

-- ---- stubs and sources

module _ (files : RawSources) where
  -- a stub is not read
  pub both-unread : (v : Verdict) → RefusesAs (read_all Stub files.stubs) v → RefusesAs (read_both files) v
  both-unread v is = refuses_then (read_all Stub files.stubs) v (read_beside files.sources) is

  module _ (stubs : List ReadSource) (are : read_all Stub files.stubs ≡ Ok stubs) where
    -- a source is not read
    pub sources-unread : (v : Verdict) → RefusesAs (read_all Source files.sources) v → RefusesAs (read_both files) v
    sources-unread v is =
        refuses_behind (read_all Stub files.stubs) v stubs (read_beside files.sources) are
        (refuses_then (read_all Source files.sources) v (λ (read : List ReadSource). Ok (record { stubs = stubs; sources = read })) is)

    pub both-read : (sources : List ReadSource) → read_all Source files.sources ≡ Ok sources → read_both files ≡ Ok (record { stubs = stubs; sources = sources })
    both-read sources is =
        ap (λ o. and_then o (read_beside files.sources)) are ∙ ap (λ o. and_then o (λ (read : List ReadSource). Ok (record { stubs = stubs; sources = read }))) is

module _ (read : ReadSources) where
  -- a unit of a stub is not entered
  pub both-unentered : (v : Verdict) → RefusesAs (enter_all Stub nothing_located read.stubs) v → RefusesAs (enter_both read) v
  both-unentered v is = refuses_then (enter_all Stub nothing_located read.stubs) v (enter_behind read.sources) is

  module _ (stubs : LocatedTable) (are : enter_all Stub nothing_located read.stubs ≡ Ok stubs) where
    abbrev as_tables : LocatedTable → Result Tables Refusal
    as_tables all = Ok (record { stubs = stubs; initial = all })

    -- a unit of a source is not entered
    pub sources-unentered : (v : Verdict) → RefusesAs (enter_all Source stubs read.sources) v → RefusesAs (enter_both read) v
    sources-unentered v is =
        refuses_behind (enter_all Stub nothing_located read.stubs) v stubs (enter_behind read.sources) are (refuses_then (enter_all Source stubs read.sources) v as_tables is)

    pub both-entered : (all : LocatedTable) → enter_all Source stubs read.sources ≡ Ok all → enter_both read ≡ as_tables all
    both-entered all is = ap (λ o. and_then o (enter_behind read.sources)) are ∙ ap (λ o. and_then o as_tables) is

-- what comes of the files that were read comes of all
pub tables-behind : (files : RawSources) (read : ReadSources) (result : Result Tables Status) → read_both files ≡ Ok read → ComesTo (enter_both read) result → ComesTo (tables_of files) result
tables-behind files read result is comes = subst (λ o. ComesTo (and_then o enter_both) result) (sym is) comes

-- ---- what is due of a refusal

abbrev IsDueOutcome : {A : Type 0} → Result A Refusal → Type 0
IsDueOutcome (Ok value) = Unit {0}
IsDueOutcome (Err refusal) = IsDueRead (Refused refusal)

due_then : {A B : Type 0} (outcome : Result A Refusal) (next : A → Result B Refusal) → IsDueOutcome outcome → ((value : A) → IsDueOutcome (next value)) → IsDueOutcome (and_then outcome next)
due_then (Ok value) next first later = later value
due_then (Err refusal) next first later = first

due_refused : {A : Type 0} (outcome : Result A Refusal) (v : Verdict) → IsDueOutcome outcome → RefusesAs outcome v → IsDueRead v
due_refused outcome Done due refuses = absurd refuses
due_refused outcome (Errors count) due refuses = absurd refuses
due_refused outcome (Refused refusal) due refuses = subst IsDueOutcome refuses due
due_refused outcome (Failed object) due refuses = tt
due_refused outcome (Input fault) due refuses = absurd refuses
due_refused outcome Memory due refuses = tt

due_result : {A : Type 0} (outcome : Result A Refusal) (result : Result A Status) → IsDueOutcome outcome → ComesTo outcome result → IfErr result (λ status. IsDueRead (verdict status))
due_result outcome (Ok value) due comes = tt
due_result outcome (Err status) due comes = due_refused outcome (verdict status) due comes

due_read : (part : Part) (path : List ℕ) (reading : Reading) → IsDueOutcome (read_by part path reading)
due_read part path (Ok declared) = tt
due_read Source path (Err (Bad place)) = tt
due_read Stub path (Err (Bad place)) = tt
due_read part path (Err (TooLarge what)) = refl

due_read_from : (part : Part) (done : List ReadSource) (sources : List RawSource) → IsDueOutcome (read_from part done sources)
due_read_from part done [] = tt
due_read_from part done (source ∷ sources) =
    due_then (read_source part source) (λ read. read_from part (done ++ read ∷ []) sources) (due_read part source.path (reading_of source.path source.bytes)) (λ read. due_read_from part (done ++ read ∷ []) sources)

due_by : (path : List ℕ) (outcome : Result LocatedTable Obstacle) → IsDueOutcome (entered_by path outcome)
due_by path (Ok table) = tt
due_by path (Err (Duplicate name first)) = tt
due_by path (Err Full) = refl

due_enter_all : (part : Part) (table : LocatedTable) (sources : List ReadSource) → IsDueOutcome (enter_all part table sources)
due_enter_all part table [] = tt
due_enter_all part table (source ∷ sources) =
    due_then (enter_next part table source) (λ next. enter_all part next sources) (due_by source.path (enter_units part source.path table (shown_parsed source.declared))) (λ next. due_enter_all part next sources)

due_enter_behind : (sources : List ReadSource) (stubs : LocatedTable) → IsDueOutcome (enter_behind sources stubs)
due_enter_behind sources stubs = due_then (enter_all Source stubs sources) (λ (all : LocatedTable). Ok (record { stubs = stubs; initial = all })) (due_enter_all Source stubs sources) (λ all. tt)

-- files that are refused by a limit are so by that of the quantity
pub due_of_all_read : (part : Part) (sources : List RawSource) (result : Result (List ReadSource) Status) → ComesTo (read_all part sources) result → IfErr result (λ status. IsDueRead (verdict status))
due_of_all_read part sources result comes = due_result (read_all part sources) result (due_read_from part [] sources) comes

pub due_of_both_entered : (read : ReadSources) (result : Result Tables Status) → ComesTo (enter_both read) result → IfErr result (λ status. IsDueRead (verdict status))
due_of_both_entered read result comes =
    due_result (enter_both read) result (due_then (enter_all Stub nothing_located read.stubs) (enter_behind read.sources) (due_enter_all Stub nothing_located read.stubs) (due_enter_behind read.sources)) comes
