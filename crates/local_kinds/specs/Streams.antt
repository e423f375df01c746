-- What a child with one of the processors says to frames of its host, one after another.
use Rattle.std.specs.Prelude.{◌≡◌, ℕ, List, map}
use Rattle.std.specs.List.{flat_map, AllByRecursion}
use Rattle.wire_frames.specs.declared.frame.Frame.{Frame}
use Rattle.wire_frames.specs.Frames.{spelling}
use Rattle.child_session.specs.Talk.{Stream}
use Rattle.local_procs.specs.declared.local.Local.{Local}
use Rattle.local_procs.specs.Says.{Unbegun}
use Rattle.local_children.specs.Streams.{said}
use Rattle.local_kinds.specs.Rounds.{IsSendable}

-- to frames that are read as they were written, the answers are written one behind another
abbrev pub AnswersInTurn : Local → Stream → Type 0
AnswersInTurn local stream = (frames : List Frame) → AllByRecursion IsSendable frames
    → stream (map spelling frames) ≡ flat_map spelling (said local Unbegun frames)

-- ---- by the bytes that are read

-- a child that writes by the bytes that it read, of which those of one frame come behind those of another
abbrev pub reading : (List ℕ → List ℕ) → Stream
reading says sent = says (flat_map (λ frame. frame) sent)

abbrev pub ReadsInTurn : Local → (List ℕ → List ℕ) → Type 0
ReadsInTurn local says = (frames : List Frame) → AllByRecursion IsSendable frames
    → says (flat_map spelling frames) ≡ flat_map spelling (said local Unbegun frames)

-- where the answers are written one behind another, so are those to frames
abbrev pub ReadersAnswerInTurn : Type 0
ReadersAnswerInTurn = (local : Local) (says : List ℕ → List ℕ) → ReadsInTurn local says → AnswersInTurn local (reading says)
