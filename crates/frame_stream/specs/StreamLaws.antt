-- What holds of the frame that stands in front of bytes.
use Rattle.std.specs.Prelude.{◌≡◌, ◌↔◌, ℕ, ◌≤◌, List, ◌++◌, length, Some}
use Rattle.frame_forms.specs.ScanLaws.{IsBytes}
use Rattle.wire_frames.specs.declared.frame.Frame.{Frame}
use Rattle.wire_frames.specs.Frames.{spelling, IsInTable}
use Rattle.frame_stream.specs.Streams.{frame_at, most_bytes}

-- A frame and a rest stand at the front of bytes exactly where the table has the frame, it isn't too long, and the bytes are its spelling and then the rest.
abbrev pub ReadingMeetsSpelling : Type 0
ReadingMeetsSpelling = (bytes : List ℕ) (frame : Frame) (rest : List ℕ) → IsBytes bytes
    → (frame_at bytes ≡ Some (frame, rest)) ↔ (IsInTable frame × (length (spelling frame) ≤ most_bytes) × (bytes ≡ spelling frame ++ rest))
