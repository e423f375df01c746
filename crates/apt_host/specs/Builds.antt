-- The promises of a build, and of its parts, over the objects that they are given: each where the objects tell what it speaks of.
use Rattle.std.specs.Prelude.{◌≡◌, ℕ, ◌+◌, ◌≤◌, Bool, List, ◌++◌, length, Contains, Result, OnOk, IfSome, map}
use Rattle.apt_outside.specs.declared.tree.Tree as tree
use Rattle.apt_outside.specs.declared.children.Children as children
use Rattle.apt_outside.specs.declared.stream.Sink as sink
use Rattle.apt_outside.specs.Count.{Rose, Told}
use Rattle.apt_outside.specs.Child.{State}
use Rattle.tree_store.specs.RecordFormat.{record_form}
use Rattle.round_engine.specs.declared.numbering.Made.{Made}
use Rattle.record_forms.specs.declared.record.Key.{Key}
use Rattle.round_engine.specs.declared.running.Finished.{Finished}
use Rattle.project_units.specs.declared.project.Project.{Project}
use Rattle.round_engine.specs.Shown.{TriesInOrder, TellsMore}
use Rattle.round_engine.specs.Clean.{Talked}
use Rattle.project_units.specs.Plans.{names_in, tries_in}
use Rattle.apt_host.specs.declared.build.Ending.{Ending}
use Rattle.apt_host.specs.declared.publish.Written.{Written}
use Rattle.apt_host.specs.declared.report.Summary as code
use Rattle.project_reading.specs.declared.status.Status.{Status}
use Rattle.project_reading.specs.Configuration.{Options}
use Rattle.project_reading.specs.Project.{shown_project}
use Rattle.apt_host.specs.CleanBuild.{Summary}
use Rattle.apt_host.specs.Report.{errors_report}
use Rattle.apt_host.specs.Listed as listed
use Rattle.apt_host.specs.Listed.{entry_of, numbered_of, summary_of}
use Rattle.apt_host.specs.Making as making
use Rattle.apt_host.specs.Making.{concluding_report}
use Rattle.project_reading.specs.Verdicts.{Verdict, Done, named_in}
use Rattle.project_reading.specs.Endings.{ended}
use Rattle.apt_host.specs.BuildEndings.{closed}
use Rattle.apt_host.specs.Promises as promise
use Rattle.apt_host.specs.Texts as text
use Rattle.apt_host.specs.Texts.{WritesText}

-- ---- the whole build

-- what it does
abbrev pub Builds : {T C : Type 0} → tree.Ghosts T → children.Ghosts C → Options → T → T → C → C → Result Ending Status → Type 0
Builds t c options tree tree' children children' result =
    promise.Builds t.tells c.tells options (t.files tree) (t.files tree') (c.state children) (c.state children') (Rose (c.faults children) (c.faults children')) (closed result)

-- its report
abbrev pub IsReport : {T C : Type 0} → tree.Ghosts T → children.Ghosts C → Options → T → T → C → C → Result Ending Status → List ℕ → List ℕ → Type 0
IsReport t c options tree tree' children children' result =
    promise.Reports t.tells c.tells options (t.files tree) (t.files tree') (c.state children) (c.state children') (closed result)

-- it was written, all of it or a front
abbrev pub Reports : {T C W : Type 0} → tree.Ghosts T → children.Ghosts C → sink.Ghosts W → Options → T → T → C → C → W → W → Result Ending Status → Type 0
Reports t c w options tree tree' children children' old new result =
    Told w.tells (WritesText (IsReport t c options tree tree' children children' result) (closed result) (Rose (w.faults old) (w.faults new)) (w.written old) (w.written new))

-- ---- what is made

-- what a run does with the children is done for the processors of its key: one was started for each where it finished, their starts were tried in order, all of them where it finished, and
-- no other
pub record UsesKey (talks : Bool) (key : Key) (v : Verdict) (old new : State) : Type 0 where
  pub finished : v ≡ Done → new.starts ≡ old.starts + length (tries_in key)
  pub least : old.starts ≤ new.starts
  pub most : new.starts ≤ old.starts + length (tries_in key)
  pub named : IfSome (named_in v) (Contains (names_in key))
  pub tried : Told talks (TriesInOrder (tries_in key) old new)
  pub all : v ≡ Done → Told talks (new.tried ≡ old.tried ++ tries_in key)
  pub more : Told talks (TellsMore (length (tries_in key)) old new)

abbrev pub UsesFor : {C : Type 0} → children.Ghosts C → Project → C → C → Result Finished Status → Type 0
UsesFor c project old new result = UsesKey c.tells project.key (ended result) (c.state old) (c.state new)

-- what was made is the clean build's
abbrev pub Makes : {C : Type 0} → children.Ghosts C → Project → C → C → Result Finished Status → Type 0
Makes c project old new result = Talked c.tells (tries_in project.key) (making.Makes (shown_project project) (c.state old) (c.state new) result)

-- ---- what is published

-- the files of a finished run are in the store, and the record in its place
abbrev pub PlacesMade : {T : Type 0} → tree.Ghosts T → Finished → T → T → Result Ending Status → Type 0
PlacesMade t finished old new result =
    Told t.tells (closed result ≡ Done → listed.Places (map numbered_of finished.files) (record_form (map entry_of finished.files)) (t.files old) (t.files new))

-- the same of what was spelled
abbrev pub Places : {T : Type 0} → tree.Ghosts T → Written → T → T → Result Unit Status → Type 0
Places t written old new result = Told t.tells (OnOk result (listed.Places written.stored written.record_bytes (t.files old) (t.files new)))

-- ---- what is written

-- all that is to be written for these files
abbrev pub Spells : Summary → List Made → Written → Type 0
Spells summary made written = listed.Spells summary made written.stored written.record_bytes written.report.items

-- what stands of the report of a build in which an error was printed
abbrev pub AddsErrors : {W : Type 0} → sink.Ghosts W → List (List ℕ) → code.Summary → W → W → Result Unit Status → Type 0
AddsErrors w processors summary old new result =
    Told w.tells (text.Adds (text.IsFront ⊥ (errors_report (summary_of processors summary)) (ended result)) (w.written old) (w.written new))

-- what stands of the report that was spelled
abbrev pub AddsFirst : {T W : Type 0} → tree.Ghosts T → sink.Ghosts W → Written → T → T → W → W → Result Unit Status → Type 0
AddsFirst t w written tree tree' old new result =
    Told w.tells (text.Adds (text.StandsFirst t.tells written.report.items written.stored (ended result) (t.files tree) (t.files tree')) (w.written old) (w.written new))

-- what stands of the report of a finished run
abbrev pub Tells : {T W : Type 0} → tree.Ghosts T → sink.Ghosts W → List (List ℕ) → Finished → T → T → W → W → Result Ending Status → Type 0
Tells t w names finished tree tree' old new result =
    Told w.tells (text.Adds (text.StandsMade t.tells finished.errors (concluding_report names finished) (map numbered_of finished.files) (closed result) (t.files tree) (t.files tree')) (w.written old) (w.written new))
