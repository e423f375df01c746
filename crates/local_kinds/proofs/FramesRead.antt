-- Frames that were written one after another are read as they were written.
use Rattle.std.proofs.Common.{◌≡◌, ℕ, ◌+◌, ◌≤◌, List, [], ◌∷◌, ◌++◌, length, Some, Ok, ap, ◌∙◌, length-append, arith}
use Rattle.std.specs.Prelude.{option_map}
use Rattle.std.specs.Int.{w32, to_be_bytes}
use Rattle.std.specs.List.{flat_map, AllByRecursion}
use Rattle.frame_forms.specs.FrameTable.{frame_form}
use Rattle.frame_forms.specs.Frames.{spelled, most_fields}
use Rattle.frame_forms.proofs.FrameLawProofs.{frames_meet}
use Rattle.wire_frames.specs.declared.frame.Frame.{Frame}
use Rattle.wire_frames.specs.Frames.{shown, spelling, IsInTable}
use Rattle.frame_decoder.proofs.ReadBack.{decoded_back}
use Rattle.frame_stream.specs.Streams.{frame_by, frame_at}
use Rattle.frame_breaches.specs.Breaches.{go_on, front_behind}
use Rattle.frame_breaches.proofs.FrontsOfBytes.{front_is}
use Rattle.local_kinds.specs.Rounds.{IsSendable}

abbrev pub AreSendable : List Frame → Type 0
AreSendable frames = AllByRecursion IsSendable frames

-- ---- one frame

pub first_read : (frame : Frame) (rest : List ℕ) → IsSendable frame → frame_at (spelling frame ++ rest) ≡ Some (frame, rest)
unfolding IsInTable spelling frame_at
first_read frame rest sendable =
    let fields = spelled frame_form (shown frame) in
    let within : length fields ≤ most_fields = omega (arith, sendable.short, length-append (to_be_bytes w32 (length fields)) fields) in
    ap frame_by (frames_meet.again (shown frame) rest (sendable.fits, within)) ∙ ap (option_map {U = Frame × List ℕ} (λ f. (f, rest))) (decoded_back frame sendable.fits)

-- ---- the last of some

pub last_read : (frames : List Frame) (last : Frame) → AreSendable frames → IsSendable last → front_behind (length frames) (flat_map spelling (frames ++ last ∷ [])) ≡ Ok (last, [])
unfolding front_behind
last_read [] last sendable is = front_is (spelling last ++ []) (last, []) (first_read last [] is)
last_read (frame ∷ frames) last sendable is =
    let rest : List ℕ = flat_map spelling (frames ++ last ∷ []) in
    ap (go_on (front_behind (length frames))) (front_is (spelling frame ++ rest) (frame, rest) (first_read frame rest sendable.0)) ∙ last_read frames last sendable.1 is
