-- What a build over a project gives, from nothing: the rounds run anew, whatever an earlier build left.
use Rattle.std.specs.Prelude.{ℕ, ◌+◌, List, length, map, Option, Result, Ok, Err, if◌then◌else◌, ◌==◌}
use Rattle.std.specs.Option.{option_and_then}
use Rattle.apt_outside.specs.Files.{Files}
use Rattle.apt_outside.specs.Child.{Says, Try}
use Rattle.wire_frames.specs.declared.frame.Message.{Message}
use Rattle.apt_filer.specs.declared.messages.Placed.{Placed}
use Rattle.unit_locations.specs.LocatedTable.{LocatedTable, Location, location_of}
use Rattle.project_units.specs.Refusals.{Refusal}
use Rattle.project_units.specs.Plans.{Plan}
use Rattle.round_engine.specs.Run.{Run, run_of}
use Rattle.project_units.specs.Creations.{files_among}
use Rattle.round_engine.specs.Clean.{is_error, is_warning, count_of}
use Rattle.project_reading.specs.Configuration.{Options}
use Rattle.project_reading.specs.Verdicts as verdict
use Rattle.project_reading.specs.Verdicts.{Verdict}
use Rattle.project_reading.specs.Project.{Read, read_of}

-- A message of the processor with this number in a round, and where its element is declared: nowhere where it has none, or where the table has not its unit, as of a package without a unit `package-info`. It carries no number of its own: messages stand in the order of a report.
pub record Reported : Type 0 where
  pub round : ℕ
  pub processor : ℕ
  pub message : Message
  pub at : Option Location

abbrev pub reported_in : LocatedTable → Placed → Reported
reported_in table placed = record {
  round = placed.round;
  processor = placed.processor;
  message = placed.message;
  at = option_and_then (location_of table) placed.message.element;
}

-- what a report says of a run, beside its files
pub record Summary : Type 0 where
  -- how many children were started: one for each processor
  pub started : ℕ
  -- how many rounds there were, the last included
  pub rounds : ℕ
  -- the names of the processors in order, and what they printed
  pub processors : List (List ℕ)
  pub messages : List Reported
  -- the names of the sources that were created in the last round
  pub unread : List (List ℕ)
  -- how many errors and warnings there were
  pub errors : ℕ
  pub warnings : ℕ

pub data Outcome : Type 0 where
  Refused : (refusal : Refusal) → Outcome
  -- an ERROR was printed, and nothing is published
  Errors : (summary : Summary) → Outcome
  -- the files to publish
  Built : (files : Files) (summary : Summary) → Outcome

-- a source that is not read gives a warning too
abbrev pub summary : List (List ℕ) → ℕ → LocatedTable → List Placed → List (List ℕ) → Summary
summary processors rounds table messages unread = record {
  started = length processors;
  rounds = rounds;
  processors = processors;
  messages = map (reported_in table) messages;
  unread = unread;
  errors = count_of is_error messages;
  warnings = count_of is_warning messages + length unread;
}

-- a run without an ERROR is published
abbrev pub finished : Summary → Files → Outcome
finished s files = if s.errors == 0 then Built files s else Errors s

-- the names of the processors of a plan
abbrev pub names_in : Plan → List (List ℕ)
names_in plan = map (λ (processor : Try). processor.0) plan.processors

-- A finished run has started one child for each processor. The locations are those of the table of its last round, which has the units of all rounds.
abbrev pub outcome_of_run : Plan → Run → Outcome
outcome_of_run plan (Ok run) = finished (summary (names_in plan) run.rounds run.table run.messages run.unread) (files_among run.made)
outcome_of_run plan (Err stopped) = Refused stopped.refusal

abbrev pub outcome_of : Says → Result Read Refusal → Outcome
outcome_of says (Err refusal) = Refused refusal
outcome_of says (Ok read) = outcome_of_run read.plan (run_of says read.plan read.table)

-- with these options of the words
abbrev pub clean : Says → Options → Files → Outcome
clean says options project = outcome_of says (read_of options project)

-- what a build comes to, if nothing fails
abbrev pub verdict_of : Outcome → Verdict
verdict_of (Refused refusal) = verdict.Refused refusal
verdict_of (Errors summary) = verdict.Errors summary.errors
verdict_of (Built files summary) = verdict.Done
