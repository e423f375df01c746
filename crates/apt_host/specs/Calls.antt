-- The promises of `run` over the objects that it is given: each where the objects tell what it speaks of.
use Rattle.std.specs.Prelude.{◌≡◌, ℕ, true, List}
use Rattle.apt_outside.specs.declared.tree.Tree as tree
use Rattle.apt_outside.specs.declared.children.Children as children
use Rattle.apt_outside.specs.declared.stream.Source as source
use Rattle.apt_outside.specs.declared.stream.Sink as sink
use Rattle.apt_outside.specs.Count.{Rose, Told}
use Rattle.project_reading.specs.declared.status.Status.{Status}
use Rattle.project_reading.specs.Verdicts.{verdict}
use Rattle.apt_host.specs.Words.{Request, Build, Serve, Help, Bad, has_line, help_text}
use Rattle.apt_host.specs.Promises as promise
use Rattle.apt_host.specs.Serving.{ServesFor}
use Rattle.apt_host.specs.Commands as command
use Rattle.apt_host.specs.Commands.{SameUnless, SameBut, touched_by}
use Rattle.apt_host.specs.Texts as text
use Rattle.apt_host.specs.Texts.{WritesText}

-- ---- what all commands keep to

-- the tree and the children are as they were, if the command may not touch them
abbrev pub Untouched : {T C : Type 0} → Request → T → T → C → C → Type 0
Untouched request tree tree' children children' = SameUnless (touched_by request).tree tree tree' × SameUnless (touched_by request).children children children'

-- so is the source
abbrev pub Unread : {R : Type 0} → Request → R → R → Type 0
Unread request old new = SameUnless (touched_by request).source old new

-- no file changes but those of the command's folder
abbrev pub KeepsOthers : {T : Type 0} → tree.Ghosts T → Request → T → T → Type 0
KeepsOthers t request old new = Told t.tells (SameBut (touched_by request).folder (t.files old) (t.files new))

-- the answer is one of those of the command
abbrev pub IsOwn : Request → Status → Type 0
IsOwn request result = command.IsOwn request (verdict result)

-- ---- what is written

-- the sink's count rose
abbrev pub RoseIn : {W : Type 0} → sink.Ghosts W → W → W → Type 0
RoseIn w old new = Rose (w.faults old) (w.faults new)

-- the line of a refusal was added
abbrev pub AddsLine : {W : Type 0} → sink.Ghosts W → W → W → Status → Type 0
AddsLine w old new result = Told w.tells (text.Adds (text.IsLine (verdict result) (RoseIn w old new)) (w.written old) (w.written new))

-- the table of words was written, all of it or a front
abbrev pub WritesTable : {W : Type 0} → sink.Ghosts W → W → W → Status → Type 0
WritesTable w old new result = Told w.tells (WritesText (λ whole part. whole ≡ help_text) (verdict result) (RoseIn w old new) (w.written old) (w.written new))

-- the whole text of the command
abbrev pub Prints : {T C : Type 0} → tree.Ghosts T → children.Ghosts C → Request → T → T → C → C → Status → List ℕ → List ℕ → Type 0
Prints t c request tree tree' children children' result =
    command.Prints t.tells c.tells request (t.files tree) (t.files tree') (c.state children) (c.state children') (verdict result)

-- all of it or a front was written, and then the line of the status
abbrev pub Writes : {T C W : Type 0} → tree.Ghosts T → children.Ghosts C → sink.Ghosts W → Request → T → T → C → C → W → W → Status → Type 0
Writes t c w request tree tree' children children' old new result =
    Told w.tells (has_line request ≡ true → text.Writes (Prints t c request tree tree' children children' result) (verdict result) (RoseIn w old new) (w.written old) (w.written new))

-- ---- what the command does beside

-- `help` and words that are no command do nothing more
abbrev pub Does : {T C R W : Type 0} → tree.Ghosts T → children.Ghosts C → source.Ghosts R → sink.Ghosts W → Request → T → T → C → C → R → R → W → W → Status → Type 0
Does t c r w (Build options) tree tree' children children' input input' output output' result =
    promise.Builds t.tells c.tells options (t.files tree) (t.files tree') (c.state children) (c.state children') (Rose (c.faults children) (c.faults children')) (verdict result)
Does t c r w (Serve local) tree tree' children children' input input' output output' result = ServesFor r w local input input' output output' (verdict result)
Does t c r w Help tree tree' children children' input input' output output' result = Unit {0}
Does t c r w (Bad at) tree tree' children children' input input' output output' result = Unit {0}
