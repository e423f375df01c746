-- What the report and the store have of a file that was made.
use Rattle.std.specs.Prelude.{◌≡◌, ◌≢◌, ℕ, ◌<◌, ◌^◌, List, [], length, map, All}
use Rattle.std.specs.FinMap as fin
use Rattle.apt_outside.specs.Files.{Files}
use Rattle.tree_store.specs.declared.record.StoredFile.{StoredFile}
use Rattle.tree_store.specs.RecordFormat.{record_form, IsEntry}
use Rattle.tree_store.specs.Output.{record_path}
use Rattle.tree_store.specs.Storing.{Numbered, AreWritten, ChangesAmong, paths_of}
use Rattle.apt_host.specs.declared.report.Summary as code
use Rattle.apt_host.specs.CleanBuild.{Summary, reported_in}
use Rattle.project_reading.specs.Verdicts.{Verdict, Done}
use Rattle.apt_host.specs.Report.{report_of}
use Rattle.round_engine.specs.declared.numbering.Made.{Made}
use Rattle.round_engine.specs.declared.running.Finished.{Finished}

-- a file's path and length
abbrev pub listed : StoredFile → List ℕ × ℕ
listed file = (file.path, file.length)

-- the entry in the record of a file with this path, number and content
abbrev pub entry_with : List ℕ → ℕ → List ℕ → StoredFile
entry_with path store bytes = record { path = path; store = store; length = length bytes }

-- its entry in the record
abbrev pub entry_of : Made → StoredFile
entry_of made = entry_with made.path made.store made.bytes

-- its file in the store
abbrev pub numbered_of : Made → ℕ × List ℕ
numbered_of made = (made.store, made.bytes)

-- its path and its bytes
abbrev pub file_of : Made → List ℕ × List ℕ
file_of made = (made.path, made.bytes)

-- its number, its path and its bytes fit into the fields of an entry
abbrev pub FitsEntry : Made → Type 0
FitsEntry made = (made.store < 2 ^ 32) × (length made.path < 2 ^ 32) × (length made.bytes < 2 ^ 32)

-- what a report says of a finished run of processors with these names
abbrev pub summary_of : List (List ℕ) → code.Summary → Summary
summary_of processors summary = record {
  started = summary.started;
  rounds = summary.rounds;
  processors = processors;
  messages = map (reported_in summary.table) summary.messages;
  unread = summary.unread;
  errors = summary.errors;
  warnings = summary.warnings;
}

-- the run whose summary this is, and whose files these are; what is remembered of it plays no part
abbrev pub finished_of : code.Summary → List Made → Finished
finished_of summary files = record {
  errors = summary.errors;
  warnings = summary.warnings;
  rounds = summary.rounds;
  started = summary.started;
  files = files;
  messages = summary.messages;
  unread = summary.unread;
  table = summary.table;
  hellos = [];
  past = [];
  processed = [];
}

-- the report of a build that publishes these files
abbrev pub report_for : Summary → List StoredFile → List ℕ
report_for summary files = report_of summary (map listed files)

-- what is to be written for these files: the store's new files, the record's bytes and the report
pub record Spells (summary : Summary) (made : List Made) (stored : Numbered) (bytes text : List ℕ) : Type 0 where
  pub stored_is : stored ≡ map numbered_of made
  pub bytes_are : bytes ≡ record_form (map entry_of made)
  pub fit : All IsEntry (map entry_of made)
  pub text_is : text ≡ report_of summary (map listed (map entry_of made))
  pub some : text ≢ []

-- the store gained these files and nothing else
pub record Gains (stored : Numbered) (old new : Files) : Type 0 where
  pub written : AreWritten new stored
  pub only : ChangesAmong (paths_of stored) old new

-- the store gained the files, and then the record was put in place
pub record Places (stored : Numbered) (bytes : List ℕ) (old new : Files) : Type 0 where
  pub mid : Files
  pub gains : Gains stored old mid
  pub committed : new ≡ fin.insert mid record_path bytes

-- wherever anything of a text stands, the store had gained the files, whatever the verdict; where it is done, the record was put in place too, as `Places` says
abbrev pub GainsFirst : Verdict → List ℕ → Numbered → Files → Files → Type 0
GainsFirst v text stored old new = v ≢ Done → text ≢ [] → Gains stored old new
