-- The clean run over a project, from nothing.
use Rattle.std.specs.Prelude.{◌≡◌, ℕ, ◌==◌, ◌+◌, ◌<◌, ◌^◌, ◌||◌, Bool, true, List, [], ◌∷◌, ◌++◌, length, take, map, filter, All, Result, Ok, Err, IfErr}
use Rattle.std.specs.FinMap as fin
use Rattle.apt_outside.specs.Count.{Told}
use Rattle.apt_outside.specs.declared.children.Children as children
use Rattle.apt_outside.specs.Files.{Files}
use Rattle.apt_outside.specs.Child.{Try, State}
use Rattle.wire_frames.specs.declared.frame.Creation.{Creation}
use Rattle.wire_frames.specs.declared.frame.Message.{Message}
use Rattle.apt_filer.specs.declared.messages.Placed.{Placed}
use Rattle.record_forms.specs.declared.record.Key.{Key}
use Rattle.wire_frames.specs.declared.frame.Hello.{Hello}
use Rattle.project_units.specs.declared.project.Project.{Project}
use Rattle.round_engine.specs.declared.rounds.Rounds.{Rounds}
use Rattle.round_engine.specs.declared.numbering.Made.{Made}
use Rattle.round_engine.specs.declared.running.Finished as declared
use Rattle.project_units.specs.declared.refusal.Refusal as code
use Rattle.project_units.specs.Refusals.{NamesAmong}
use Rattle.project_units.specs.Faults.{stop_of, is_due, exempt_in}
use Rattle.unit_locations.specs.LocatedTable.{LocatedTable}
use Rattle.round_engine.specs.Numbering.{AreLeast}
use Rattle.round_engine.specs.Numbered.{shown_made, number_of, HasText, IsWritten, Fits}
use Rattle.project_units.specs.Plans.{Plan, names_in, plan_of, tries_in}
use Rattle.round_engine.specs.Run.{Run, Finished, run_of, frames_of}
use Rattle.project_units.specs.Creations.{files_among}
use Rattle.round_engine.specs.Shown.{ShowsAll, TellsMore, ShowsNoMore, TriesInOrder, StartsAll, StopsAs}

-- ---- what is counted

abbrev pub is_error : Message → Bool
is_error message = message.kind == 0

-- warnings and mandatory warnings
abbrev pub is_warning : Message → Bool
is_warning message = (message.kind == 1) || (message.kind == 2)

abbrev pub count_of : (Message → Bool) → List Placed → ℕ
count_of p messages = length (filter (λ placed. p placed.message) messages)

-- ---- what a clean run says

-- files that are ready for the store: they ascend by path, each has the least number that is left, and fits its fields
pub record AreNumbered (taken : List ℕ) (files : List Made) : Type 0 where
  pub published : Files
  pub entries : map shown_made files ≡ fin.entries published
  pub numbers : AreLeast taken [] (map number_of files)
  pub texts : All HasText files
  -- each is to be written: none is left of an earlier build
  pub written : All IsWritten files
  pub count : length files < 2 ^ 32
  pub sizes : All Fits files

-- what a finished run has of what was made: its files, ascending by path, and how many errors and warnings there were
pub record Has (made : List Creation) (finished : declared.Finished) : Type 0 where
  pub files : map shown_made finished.files ≡ fin.entries (files_among made)
  pub errors : finished.errors ≡ count_of is_error finished.messages
  pub warnings : finished.warnings ≡ count_of is_warning finished.messages + length finished.unread

-- it has of the rounds what they came to, and of the processors what they said
pub record Closes (all : Rounds) (count : ℕ) (said : List Hello) (finished : declared.Finished) : Type 0 where
  pub rounds : finished.rounds ≡ all.count
  pub messages : finished.messages ≡ all.messages
  pub unread : finished.unread ≡ all.unread
  pub started : finished.started ≡ count
  pub table : finished.table ≡ all.table
  pub hellos : finished.hellos ≡ said
  pub processed : finished.processed ≡ all.processed
  pub past : finished.past ≡ all.past

-- a finished run, with the frames that were sent and the files that were made
abbrev pub shown_finished : List (List (List ℕ)) → List Creation → declared.Finished → Finished
shown_finished sent made finished = record {
  sent = sent;
  rounds = finished.rounds;
  made = made;
  messages = finished.messages;
  unread = finished.unread;
  table = finished.table;
  hellos = finished.hellos;
  processed = finished.processed;
  past = finished.past;
}

-- it has a Hello of each processor of the key, whatever the children tell
abbrev pub HasEachHello : Key → declared.Finished → Type 0
HasEachHello key finished = length finished.hellos ≡ length key.processors

-- it is this run, and has its files
pub record FinishesAs (whole : Run) (count : ℕ) (finished : declared.Finished) : Type 0 where
  pub made : List Creation
  pub is : whole ≡ Ok (shown_finished (frames_of whole) made finished)
  pub has : Has made finished
  pub started : finished.started ≡ count

-- what came of it is the run of a plan
abbrev pub ComesOf : Run → ℕ → Result declared.Finished code.Refusal → Type 0
ComesOf whole started (Ok finished) = FinishesAs whole started finished
ComesOf whole started (Err refusal) = StopsAs whole (frames_of whole) (stop_of refusal)

-- As many processors, the first in order, were started as the run sent frames to, and no start of another was tried. The child of each is new, and was shown
-- exactly the run's frames.
pub record ShowsWhole (processors : List Try) (whole : Run) (old new : State) : Type 0 where
  pub frames : ShowsAll processors (frames_of whole) old new
  pub starts : new.starts ≡ old.starts + length (frames_of whole)
  pub tried : new.tried ≡ old.tried ++ take (length (frames_of whole)) processors

pub record Cleans (plan : Plan) (table : LocatedTable) (old new : State) (result : Result declared.Finished code.Refusal) : Type 0 where
  pub comes : ComesOf (run_of old.says plan table) (length plan.processors) result
  pub more : TellsMore (length plan.processors) old new
  pub shown : is_due result ≡ true → ShowsWhole plan.processors (run_of old.says plan table) old new
  -- whatever came of it; of the child that a fault of the children names it is not told what it was sent
  pub fronts : ShowsNoMore (exempt_in result) plan.processors (frames_of (run_of old.says plan table)) old new

-- a fact on which what children say bears, where they tell it; without a processor none is asked
abbrev pub Talked : Bool → List Try → Type 0 → Type 0
Talked talks [] P = P
Talked talks (processor ∷ others) P = Told talks P

-- the same of a project, over children before and after a call
abbrev pub CleansOver : {C : Type 0} → children.Ghosts C → Project → C → C → Result declared.Finished code.Refusal → Type 0
CleansOver c project old new result =
    Talked c.tells (tries_in project.key) (Cleans (plan_of project.key) project.initial (c.state old) (c.state new) result)

-- ---- starts and names

-- one child was started for each processor and no other, or no more than these where the run was refused
abbrev pub Starts : Key → Result declared.Finished code.Refusal → State → State → Type 0
Starts key result old new = StartsAll (tries_in key) result old new

-- the starts of the processors were tried in order, up to one of them, and no other
abbrev pub Tries : Key → State → State → Type 0
Tries key old new = TriesInOrder (tries_in key) old new

-- a refusal that names a processor names one of these
abbrev pub NamesProcessor : Key → Result declared.Finished code.Refusal → Type 0
NamesProcessor key result = IfErr result (λ refusal. NamesAmong (names_in key) (stop_of refusal))
