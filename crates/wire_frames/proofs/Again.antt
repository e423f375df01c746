-- What is written of a frame that the table has is read back.
use Rattle.std.proofs.Common.{◌≡◌, ℕ, ◌≤◌, List, [], length, Result, Ok, Err, sym, ap, ◌∙◌, append-nil, length-append, arith}
use Rattle.std.specs.Prelude.{IfOk, OnOk}
use Rattle.std.specs.Int.{w32, to_be_bytes}
use Rattle.frame_forms.specs.Scans.{whole}
use Rattle.frame_forms.specs.FrameTable.{frame_form}
use Rattle.frame_forms.specs.Frames.{Fits, spelled, frame_spelling, frame_scan}
use Rattle.frame_forms.proofs.FrameLawProofs.{frames_meet}
use Rattle.wire_frames.specs.declared.frame.Frame.{Frame}
use Rattle.wire_frames.specs.declared.writing.FrameFault.{FrameFault}
use Rattle.wire_frames.specs.Frames.{shown, spelling, IsInTable, AreBytesOf}

again : (frame : Frame) (bytes : List ℕ) → Fits frame_form (shown frame) → bytes ≡ spelling frame → length (spelling frame) ≤ 134217728 → frame_scan bytes ≡ whole (shown frame) []
unfolding spelling
again frame bytes fits is short =
    let fields = spelled frame_form (shown frame) in
    let within : length fields ≤ 134217724 = omega (arith, short, length-append (to_be_bytes w32 (length fields)) fields) in
    ap frame_scan (is ∙ sym (append-nil (frame_spelling (shown frame)))) ∙ frames_meet.again (shown frame) [] (fits, within)

pub read_again : (frame : Frame) (result : Result (List ℕ) FrameFault) → IfOk result (λ bytes. bytes ≡ spelling frame) → OnOk result (length (spelling frame) ≤ 134217728) → IsInTable frame → IfOk result (λ bytes. AreBytesOf bytes frame)
unfolding IsInTable AreBytesOf
read_again frame (Ok bytes) is short fits = again frame bytes fits is short
read_again frame (Err fault) is short fits = tt
