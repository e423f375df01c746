-- The frame in front of bytes, what one byte more of a stream comes to, and what the front of some bytes does.
use Rattle.std.specs.Prelude.{◌≡◌, ◌⊎◌, ℕ, ◌-◌, ◌<◌, ◌≤◌, List, [], ◌++◌, length, take, Result, Ok, Err, Option, Some, None, option_map}
use Rattle.frame_forms.specs.Scans.{Scan, whole, begun, bad}
use Rattle.frame_forms.specs.FrameTable.{Fields, frame_form}
use Rattle.frame_forms.specs.Frames.{spelled, frame_scan}
use Rattle.wire_frames.specs.declared.frame.Frame.{Frame}
use Rattle.wire_frames.specs.Frames.{AreBytesOf}
use Rattle.frame_decoder.specs.Decodings.{decoded}
use Rattle.frame_reader.specs.declared.found.Found.{Found}
use Rattle.frame_reader.specs.declared.found.Found.TheVariants as founds
use Rattle.frame_reader.specs.Stages.{found_in}
use Rattle.frame_stream.specs.declared.reader.ReadFault.{ReadFault}
use Rattle.frame_stream.specs.declared.reader.ReadFault.TheVariants as faults

-- ---- the frame in front

-- the frame that has these fields, as a value: the one that their spelling is
abbrev pub frame_with : Fields → Option Frame
frame_with fields = decoded (spelled frame_form fields)

abbrev pub frame_by : Scan Fields → Option (Frame × List ℕ)
frame_by (whole fields rest) = option_map (λ frame. (frame, rest)) (frame_with fields)
frame_by begun = None
frame_by (bad rest kind) = None

-- the frame that stands first by the table of all frames, and the bytes behind it
unfoldable pub frame_at : List ℕ → Option (Frame × List ℕ)
frame_at bytes = frame_by (frame_scan bytes)

-- ---- one byte more

-- A whole frame is let go when it is given. Where it stands, there was no memory for its value, and the byte that ended it is still to come.
abbrev pub pending_by : Found → List ℕ → List ℕ
pending_by founds.Whole bytes = take (length bytes - 1) bytes
pending_by founds.Begun bytes = bytes
pending_by (founds.Bad place kind) bytes = bytes

unfoldable pub pending : List ℕ → List ℕ
pending bytes = pending_by (found_in bytes) bytes

-- the most bytes of a frame, its length among them
abbrev pub most_bytes : ℕ
most_bytes = 134217728

-- What is answered where the bytes since the last frame are these with the next byte, and which bytes there are then: a frame that they are, nothing while they begin one, or the first bad byte. After a bad byte no byte is taken. Without memory a frame was begun, and the byte is not taken.
abbrev pub Comes : Result (Option Frame) ReadFault → List ℕ → List ℕ → List ℕ → Type 0
Comes (Ok (Some frame)) old next new = AreBytesOf next frame × (new ≡ []) × (frame_at next ≡ Some (frame, []))
Comes (Ok None) old next new = (found_in next ≡ founds.Begun) × (new ≡ next)
Comes (Err (faults.Bad place kind)) old next new = (found_in next ≡ founds.Bad place kind) × (new ≡ next)
Comes (Err faults.Memory) old next new = (found_in old ≡ founds.Begun) × (new ≡ old)

-- ---- the front of some bytes

-- This many bytes of a piece were taken. Before the last one the bytes since the last frame begin one, so that each byte up to there is answered `None`; the last one is answered this.
pub record AnswersLast (answer : Result (Option Frame) ReadFault) (taken : ℕ) (piece old new : List ℕ) : Type 0 where
  pub some : 0 < taken
  pub within : taken ≤ length piece
  pub begun : found_in (old ++ take (taken - 1) piece) ≡ founds.Begun
  pub comes : Comes answer (old ++ take (taken - 1) piece) (old ++ take taken piece) new

-- What is answered where the bytes of a piece are fed one by one up to the first answer that is not `None`, how many of them were taken, and which bytes there are then. Where a bad byte stands, none is taken. Without memory those before the one for which there was none were taken.
abbrev pub ComesOf : Result (Option Frame) ReadFault → ℕ → List ℕ → List ℕ → List ℕ → Type 0
ComesOf (Ok (Some frame)) taken piece old new = AnswersLast (Ok (Some frame)) taken piece old new
ComesOf (Ok None) taken piece old new = (taken ≡ length piece) × Comes (Ok None) old (old ++ piece) new
ComesOf (Err (faults.Bad place kind)) taken piece old new =
    AnswersLast (Err (faults.Bad place kind)) taken piece old new ⊎ ((taken ≡ 0) × Comes (Err (faults.Bad place kind)) old old new)
ComesOf (Err faults.Memory) taken piece old new = (taken < length piece) × Comes (Err faults.Memory) (old ++ take taken piece) [] new
