-- When a case of frames passes: its bytes are what is expected, by the table of all frames.
use Rattle.std.specs.Prelude.{◌≡◌, ℕ, false, List, Option, Some, None}
use Rattle.frame_forms.specs.Scans.{begun}
use Rattle.frame_forms.specs.Frames.{frame_scan, first_bad}
use Rattle.wire_frames.specs.declared.frame.Frame.{Frame}
use Rattle.wire_frames.specs.Frames.{AreBytesOf, spelling}
use Rattle.wire_frames.specs.Limits.{is_too_large}
use Rattle.vector_tables.specs.declared.verdict.Verdict.{Verdict}
use Rattle.vector_tables.specs.declared.verdict.Verdict.TheVariants as verdicts
use Rattle.vector_tables.specs.declared.frame_case.FrameCase.{FrameCase}

-- bytes with a name, and what they are to be
pub record FrameRow : Type 0 where
  pub name : List ℕ
  pub bytes : List ℕ
  pub expected : Verdict

abbrev pub shown_frame_case : FrameCase → FrameRow
shown_frame_case case = record { name = case.name.now; bytes = case.bytes.now; expected = case.expected }

-- What bytes are: one frame and no more, which is spelled as these bytes again; the beginning of a frame; or a byte at this place is the first bad one, and this is wrong with it.
abbrev pub Are : List ℕ → Verdict → Type 0
Are bytes verdicts.Whole = (frame : Frame) × AreBytesOf bytes frame × (spelling frame ≡ bytes)
Are bytes verdicts.Begun = frame_scan bytes ≡ begun
Are bytes (verdicts.Bad place kind) = first_bad bytes ≡ Some (place, kind)

-- what bytes are, where they are one of these
abbrev pub AreJust : List ℕ → Option Verdict → Type 0
AreJust bytes (Some verdict) = Are bytes verdict
AreJust bytes None = (verdict : Verdict) → ¬ Are bytes verdict

-- the frame is spelled as these bytes, and it is not too large to be sent
abbrev pub IsWritten : Frame → List ℕ → Type 0
IsWritten frame bytes = (spelling frame ≡ bytes) × (is_too_large frame ≡ false)

-- a row holds: its bytes are what is expected
abbrev pub IsMet : FrameRow → Type 0
IsMet row = Are row.bytes row.expected

-- a case passes
abbrev pub IsFramePassed : FrameCase → Type 0
IsFramePassed case = IsMet (shown_frame_case case)
