-- What a build promises.
use Rattle.std.specs.Prelude.{◌≡◌, ◌≢◌, ◌⊎◌, ℕ, ◌+◌, ◌≤◌, Bool, true, List, [], ◌++◌, map, length, Contains, IfSome, Result, Ok, Err, Option}
use Rattle.std.specs.FinMap as fin
use Rattle.apt_outside.specs.Count.{Told}
use Rattle.apt_outside.specs.Files.{Files}
use Rattle.apt_outside.specs.Child.{Says, Try, State, AllKept}
use Rattle.tree_store.specs.declared.record.StoredFile.{StoredFile}
use Rattle.tree_store.specs.RecordFormat.{record_form}
use Rattle.tree_store.specs.Output.{store_path, output_of, record_path, StoresStand}
use Rattle.tree_store.specs.Storing.{AreTaken, AddsToStore, ChangesAmong, Holds}
use Rattle.project_units.specs.Limits.{limit_of}
use Rattle.round_engine.specs.Numbering.{AreLeast}
use Rattle.project_units.specs.Refusals as stop
use Rattle.project_units.specs.Refusals.{Refusal, Object, Tree, Sink, Children}
use Rattle.round_engine.specs.Run.{run_of, frames_of}
use Rattle.round_engine.specs.Shown.{TriesInOrder, TellsMore, ShowsNoMore, IsDueStop}
use Rattle.round_engine.specs.Clean.{Talked, ShowsWhole}
use Rattle.apt_host.specs.Exempt.{IsExempt}
use Rattle.project_reading.specs.Configuration.{Options, IsPlaceOf, is_of_project}
use Rattle.project_reading.specs.Project.{Read, read_of}
use Rattle.apt_host.specs.CleanBuild.{Outcome, clean, verdict_of}
use Rattle.apt_host.specs.CleanBuild as outcome
use Rattle.apt_host.specs.Report.{report_text}
use Rattle.project_reading.specs.Verdicts.{Verdict, Done, Errors, Refused, Failed, Input, Memory, OrFree, is_finished, has_run, named_in}

-- ---- what is told

-- a fact on which what children say bears, if a child is asked: the project is read, and has a processor
abbrev pub TalkedOf : Bool → Result Read Refusal → Type 0 → Type 0
TalkedOf talks (Err refusal) P = P
TalkedOf talks (Ok read) P = Talked talks read.plan.processors P

-- a fact of a build over this project, where the tree tells what it holds and the children what they say
abbrev pub ToldOf : Bool → Bool → Options → Files → Type 0 → Type 0
ToldOf tells talks options project P = Told tells (TalkedOf talks (read_of options project) P)

-- ---- the answer

-- the answer of a build over a project is the clean build's
abbrev pub Answers : Bool → Bool → Options → Says → Files → Verdict → Type 0
Answers tells talks options says project v = ToldOf tells talks options project (OrFree (verdict_of (clean says options project)) v)

-- Where the tree tells what it holds, a build that is refused before any child was started is refused as its project is, whatever the children tell. So is one whose
-- refusal nothing but the files of the project come to.
abbrev pub RefusesRead : Bool → Options → Files → State → State → Verdict → Type 0
RefusesRead tells options project old new v =
    Told tells ((refusal : Refusal) → v ≡ Refused refusal → (new.starts ≡ old.starts) ⊎ (is_of_project refusal ≡ true) → read_of options project ≡ Err refusal)

-- ---- what is published

-- The store gained these files and nothing else: each stands under its number with its bytes. The numbers are, in order of
-- path, the least that no file of the store and no earlier one has.
pub record Stores (files : Files) (entries : List StoredFile) (old new : Files) : Type 0 where
  pub held : Holds new entries files
  pub only : ChangesAmong (map (λ entry. store_path entry.store) entries) old new
  pub taken : List ℕ
  pub are_taken : AreTaken old taken
  pub numbers : AreLeast taken [] (map (λ entry. entry.store) entries)

-- The store gained these files, and then the record that names them was put in place: they are the output.
pub record Publishes (files old new : Files) : Type 0 where
  pub entries : List StoredFile
  pub mid : Files
  pub stores : Stores files entries old mid
  pub committed : new ≡ fin.insert mid record_path (record_form entries)
  pub output : output_of new ≡ files

abbrev pub PublishesOutcome : Outcome → Files → Files → Type 0
PublishesOutcome (outcome.Built files summary) old new = Publishes files old new
PublishesOutcome (outcome.Errors summary) old new = ⊥
PublishesOutcome (outcome.Refused refusal) old new = ⊥

-- a finished build published what the clean build gives
abbrev pub PublishesClean : Bool → Bool → Options → Says → Files → Files → Verdict → Type 0
PublishesClean tells talks options says old new v = ToldOf tells talks options old (v ≡ Done → PublishesOutcome (clean says options old) old new)

-- after any other answer the former output stands
abbrev pub KeepsOutput : Files → Files → Verdict → Type 0
KeepsOutput old new v = v ≢ Done → StoresStand old → output_of new ≡ output_of old

-- ---- what the tree holds in the end

abbrev pub LeavesFailed : Object → Files → Files → Type 0
LeavesFailed Tree old new = AddsToStore old new
LeavesFailed Sink old new = AddsToStore old new
LeavesFailed (Children processor) old new = new ≡ old

-- A build that is published adds its files to the store and puts the record in place, and does nothing else. Errors that were
-- printed, a refusal and a fault of the children leave the tree as it is. A fault of the tree or the sink, and out of memory,
-- may leave more files in the store, which no record names.
abbrev pub Leaves : Verdict → Files → Files → Type 0
Leaves Done old new = (files : Files) × Publishes files old new
Leaves (Errors count) old new = new ≡ old
Leaves (Refused refusal) old new = new ≡ old
Leaves (Failed object) old new = LeavesFailed object old new
Leaves (Input fault) old new = ⊥
Leaves Memory old new = AddsToStore old new

-- the same of a build that is not published
abbrev pub LeavesUndone : Verdict → Files → Files → Type 0
LeavesUndone v old new = v ≢ Done → Leaves v old new

-- ---- its report

-- the store files of a build stand and nothing else changed, or it is done and the record that names them was put in place behind them
abbrev pub StoresBuilt : Files → Verdict → Files → Files → Type 0
StoresBuilt files Done old new = Publishes files old new
StoresBuilt files other old new = (entries : List StoredFile) × Stores files entries old new

-- the store files of an outcome stand; beside errors there are none, and a refusal has no report
abbrev pub StoresOutcome : Outcome → Verdict → Files → Files → Type 0
StoresOutcome (outcome.Built files summary) v old new = StoresBuilt files v old new
StoresOutcome (outcome.Errors summary) v old new = new ≡ old
StoresOutcome (outcome.Refused refusal) v old new = ⊥

-- wherever anything of the report of an outcome stands, its store files stand, whatever the answer
abbrev pub StoresFirst : Outcome → Verdict → List ℕ → Files → Files → Type 0
StoresFirst o v text old new = text ≢ [] → StoresOutcome o v old new

-- the number in the mode line of an outcome's report is that by which the starts rose
abbrev pub CountsStarts : Outcome → State → State → Type 0
CountsStarts (outcome.Built files summary) old new = new.starts ≡ old.starts + summary.started
CountsStarts (outcome.Errors summary) old new = new.starts ≡ old.starts + summary.started
CountsStarts (outcome.Refused refusal) old new = Unit {0}

-- the whole text of a build is the report of an outcome, and this much of it stands
pub record Reports (tells talks : Bool) (options : Options) (project project' : Files) (old new : State) (v : Verdict) (whole text : List ℕ) : Type 0 where
  pub outcome : Outcome
  -- which is the clean build's
  pub is_clean : ToldOf tells talks options project (outcome ≡ clean old.says options project)
  pub is_report : whole ≡ report_text outcome
  -- a finished build writes the report of an outcome with its answer, whatever the tree and the children tell
  pub ended : is_finished v ≡ true → v ≡ verdict_of outcome
  -- wherever anything of the report stands, its mode line is of the children that were started
  pub counted : text ≢ [] → CountsStarts outcome old new
  -- wherever anything of it stands, the store files stand before it, whatever the answer
  pub stores : Told tells (StoresFirst outcome v text project project')

-- ---- what children are started and shown

-- the processors of a project that was read; one that is refused has none
abbrev pub processors_in : Result Read Refusal → List Try
processors_in (Ok read) = read.plan.processors
processors_in (Err refusal) = []

-- Children are started for the processors that were read, which are those of the project where the tree tells what it holds: one for each where the run was finished. Their
-- starts were tried in order, all of them where the run was finished, or up to one of them, and no other. A refusal or a fault that names a processor names one of them, and nothing is
-- told anew but of at most as many children, which are new. So nothing is started or tried for a project that is refused.
pub record Uses (tells talks : Bool) (options : Options) (project : Files) (v : Verdict) (old new : State) : Type 0 where
  pub processors : List Try
  pub are : Told tells (processors ≡ processors_in (read_of options project))
  pub finished : has_run v ≡ true → new.starts ≡ old.starts + length processors
  pub least : old.starts ≤ new.starts
  pub most : new.starts ≤ old.starts + length processors
  pub few : new.starts ≤ old.starts + 64
  pub named : IfSome (named_in v) (Contains (map (λ (processor : Try). processor.0) processors))
  pub tried : Told talks (TriesInOrder processors old new)
  pub all : has_run v ≡ true → Told talks (new.tried ≡ old.tried ++ processors)
  pub more : Told talks (TellsMore (length processors) old new)

-- Whatever the tree and the children tell, a refusal of a file of the configuration names one of the three with a place that it has. One by a limit has that limit where no child
-- was started, one for too many questions has that of some roots, and one by a claim that was broken broke it.
abbrev pub IsDue : State → State → Verdict → Type 0
IsDue old new (Refused (stop.BadConfig path place)) = IsPlaceOf path place
IsDue old new (Refused (stop.TooLarge what limit)) = new.starts ≡ old.starts → limit ≡ limit_of what
IsDue old new (Refused refusal) = IsDueStop (stop.Refused refusal)
IsDue old new other = Unit {0}

-- By how a build ended, its children were shown the whole run, or none was started: a fault of the tree comes before the run or behind it, and one of the sink
-- behind it. After a fault of the children, or out of memory, `ShowsRead.fronts` says what there was of it.
abbrev pub ShowsBy : Verdict → Type 0 → Type 0 → Type 0
ShowsBy Done P Q = P
ShowsBy (Errors count) P Q = P
ShowsBy (Refused refusal) P Q = P
ShowsBy (Failed Tree) P Q = P ⊎ Q
ShowsBy (Failed Sink) P Q = P
ShowsBy (Failed (Children processor)) P Q = Unit {0}
ShowsBy (Input fault) P Q = P
ShowsBy Memory P Q = Unit {0}

-- As many processors, the first in order, were started as the run has frames for, all of them where it finished. The child of each was not known before and was
-- shown exactly its frames of the run: the first frame, the rounds in which it is asked with the names that it is offered, and the replies between them.
pub record ShowsRead (rose : Type 0) (read : Read) (old new : State) (v : Verdict) : Type 0 where
  pub by : ShowsBy v (ShowsWhole read.plan.processors (run_of old.says read.plan read.table) old new) (new ≡ old)
  pub exempt : Option (List ℕ)
  pub is_exempt : IsExempt rose v exempt
  -- Whatever came of it, each child that is new is that of its processor, in order, and was sent the first of these frames and nothing else; but for the one that is
  -- exempt. After a fault of the children that is the child of the processor which it names; out of memory exempts none, but behind such a fault.
  pub fronts : ShowsNoMore exempt read.plan.processors (frames_of (run_of old.says read.plan read.table)) old new

-- `rose` says that the count of the faults of the children rose
abbrev pub ShowsOver : Type 0 → Result Read Refusal → State → State → Verdict → Type 0
ShowsOver rose (Err refusal) old new v = AllKept old.known new.known
ShowsOver rose (Ok read) old new v = ShowsRead rose read old new v

-- ---- all of it

-- What a build with these options does, from the files of the tree and the children before it to those after it, and how it ends. `rose` says that the count of the faults of the
-- children rose.
pub record Builds (tells talks : Bool) (options : Options) (old new : Files) (before after : State) (rose : Type 0) (v : Verdict) : Type 0 where
  -- The answer is the clean build's, unless it is a fault or out of memory. A refusal before any start, or of the configuration, is that of the project, whatever the children tell.
  pub answer : Answers tells talks options before.says old v
  pub refused : RefusesRead tells options old before after v
  pub due : IsDue before after v
  -- What is published is the clean build's; after any other answer the former output stands. Of the tree nothing else changes.
  pub published : PublishesClean tells talks options before.says old new v
  pub leaves : Told tells (Leaves v old new)
  pub kept : Told tells (KeepsOutput old new v)
  pub stand : Told tells (StoresStand old → StoresStand new)
  -- No child is started or tried but those of the processors that were read, which are those of the project where the tree tells it, and none for a project that is refused. Each
  -- processor that is started has a new child, which is shown exactly its frames of the run. Where the run stopped early, it is shown those up to that point; but for the child of
  -- the processor that a fault of the children names.
  pub uses : Uses tells talks options old v before after
  pub shown : Told tells (Told talks (ShowsOver rose (read_of options old) before after v))
