-- What making the files of a build gives.
use Rattle.std.specs.Prelude.{◌≡◌, ◌==◌, ℕ, ◌<◌, Bool, true, false, not, List, length, map, if◌then◌else◌, Result, Ok, Err}
use Rattle.apt_outside.specs.Files.{Files}
use Rattle.apt_outside.specs.Child.{Says, State}
use Rattle.round_engine.specs.declared.running.Finished.{Finished}
use Rattle.round_engine.specs.Run.{run_of, frames_of}
use Rattle.round_engine.specs.Shown.{TellsMore, ShowsNoMore}
use Rattle.round_engine.specs.Clean.{FinishesAs, ShowsWhole}
use Rattle.project_reading.specs.declared.status.Status.{Status}
use Rattle.project_reading.specs.Configuration.{is_of_project}
use Rattle.project_reading.specs.Project.{Read}
use Rattle.apt_host.specs.Exempt.{exempt_made}
use Rattle.apt_host.specs.CleanBuild as outcome
use Rattle.apt_host.specs.CleanBuild.{Summary, Outcome, reported_in, outcome_of, verdict_of}
use Rattle.apt_host.specs.Report.{report_of, errors_report}
use Rattle.apt_host.specs.Listed.{listed, entry_of}
use Rattle.project_reading.specs.Verdicts.{Verdict, Done, Errors, Refused, OrFree, is_free, verdict}

-- what was made is the run's, where it is due
abbrev pub MakesOf : Says → Read → Result Finished Status → Type 0
MakesOf says read (Ok finished) = FinishesAs (run_of says read.plan read.table) (length read.plan.processors) finished
MakesOf says read (Err status) = OrFree (verdict_of (outcome_of says (Ok read))) (verdict status)

-- whether it is due: neither a fault outside nor out of memory
abbrev pub is_made : {T : Type 0} → Result T Status → Bool
is_made (Ok value) = true
is_made (Err status) = not (is_free (verdict status))

pub record Makes (read : Read) (old new : State) (result : Result Finished Status) : Type 0 where
  pub comes : MakesOf old.says read result
  pub more : TellsMore (length read.plan.processors) old new
  pub shown : is_made result ≡ true → ShowsWhole read.plan.processors (run_of old.says read.plan read.table) old new
  -- whatever came of it; of the child that a fault of the children names it is not told what it was sent
  pub fronts : ShowsNoMore (exempt_made result) read.plan.processors (frames_of (run_of old.says read.plan read.table)) old new

-- whatever the children tell, a refusal comes behind a start, and is none that the project alone comes to
abbrev pub RefusesRun : State → State → Verdict → Type 0
RefusesRun old new (Refused refusal) = (old.starts < new.starts) × (is_of_project refusal ≡ false)
RefusesRun old new other = Unit {0}

-- ---- what comes after the run

abbrev pub finished_summary : List (List ℕ) → Finished → Summary
finished_summary processors finished = record {
  started = finished.started;
  rounds = finished.rounds;
  processors = processors;
  messages = map (reported_in finished.table) finished.messages;
  unread = finished.unread;
  errors = finished.errors;
  warnings = finished.warnings;
}

-- a run in which errors were printed is not published
abbrev pub concluded : Finished → Verdict
concluded finished = if finished.errors == 0 then Done else Errors finished.errors

-- what it comes to, with these files
abbrev pub outcome_with : List (List ℕ) → Finished → Files → Outcome
outcome_with processors finished files = outcome.finished (finished_summary processors finished) files

abbrev pub concluding_report : List (List ℕ) → Finished → List ℕ
concluding_report processors finished =
    if finished.errors == 0 then report_of (finished_summary processors finished) (map listed (map entry_of finished.files))
    else errors_report (finished_summary processors finished)
