-- The frame that stands in front of bytes is the one that is spelled there.
use Rattle.std.proofs.Common.{◌≡◌, ℕ, ◌≤◌, List, [], ◌++◌, length, Option, Some, None, option_map, refl, sym, ap, ◌∙◌, append-nil, length-append, arith}
use Rattle.std.specs.Int.{w32, to_be_bytes}
use Rattle.apt_base.proofs.FieldsLemmas.{some_is}
use Rattle.frame_forms.specs.Scans.{Scan, whole, begun, bad}
use Rattle.frame_forms.specs.ScanLaws.{IsBytes}
use Rattle.frame_forms.specs.FrameTable.{Fields, frame_form}
use Rattle.frame_forms.specs.Frames.{IsFrame, spelled, scanned, frame_scan, most_fields}
use Rattle.frame_forms.proofs.Steady.{whole_value}
use Rattle.frame_forms.proofs.FrameLawProofs.{frames_meet}
use Rattle.frame_forms.proofs.FormsMeet.{scanned-meets}
use Rattle.frame_forms.proofs.Sound.{grammar_sound, frame_sound}
use Rattle.wire_frames.specs.declared.frame.Frame.{Frame}
use Rattle.wire_frames.specs.Frames.{shown, spelling, IsInTable}
use Rattle.frame_decoder.proofs.Decoded.{decoded-stands}
use Rattle.frame_decoder.proofs.ReadBack.{decoded_back}
use Rattle.frame_stream.specs.Streams.{frame_with, frame_by, frame_at, most_bytes}
use Rattle.frame_stream.specs.StreamLaws.{ReadingMeetsSpelling}

-- the fields of a value are those that it was decoded from
shown_again : (fields : Fields) (frame : Frame) → IsFrame fields → frame_with fields ≡ Some frame → fields ≡ shown frame
shown_again fields frame is e =
    let one : scanned frame_form (spelled frame_form fields) ≡ whole fields [] =
    ap (scanned frame_form) (sym (append-nil (spelled frame_form fields))) ∙ (scanned-meets grammar_sound frame_form frame_sound).again fields [] is.0 in
    whole_value fields (shown frame) [] [] (sym one ∙ decoded-stands (spelled frame_form fields) frame e)

with_value : (rest behind : List ℕ) (frame : Frame) (o : Option Frame) → option_map {U = Frame × List ℕ} (λ f. (f, rest)) o ≡ Some (frame, behind) → (o ≡ Some frame) × (rest ≡ behind)
with_value rest behind frame None e = absurd cc
with_value rest behind frame (Some f) e =
    let same = some_is (f, rest) (frame, behind) e in
    (ap (λ (x : Frame × List ℕ). Some x.0) same, ap (λ (x : Frame × List ℕ). x.1) same)

stands : (bytes : List ℕ) (frame : Frame) (rest : List ℕ) → IsBytes bytes → frame_at bytes ≡ Some (frame, rest) → frame_scan bytes ≡ whole (shown frame) rest
unfolding frame_at
stands bytes frame rest are e = cases (frame_scan bytes) refl e
  where
    cases : (s : Scan Fields) → frame_scan bytes ≡ s → frame_by s ≡ Some (frame, rest) → frame_scan bytes ≡ whole (shown frame) rest
    cases (whole fields behind) is f =
        let both = with_value behind rest frame (frame_with fields) f in
        let fits = (frames_meet.spelled bytes fields behind are is).0 in
        is ∙ ap (λ (x : Fields). whole x behind) (shown_again fields frame fits both.0) ∙ ap (λ (r : List ℕ). whole (shown frame) r) both.1
    cases begun is f = absurd cc
    cases (bad more kind) is f = absurd cc

spelled_there : (bytes : List ℕ) (frame : Frame) (rest : List ℕ) → IsBytes bytes → frame_at bytes ≡ Some (frame, rest) → IsInTable frame × (length (spelling frame) ≤ most_bytes) × (bytes ≡ spelling frame ++ rest)
unfolding IsInTable spelling
spelled_there bytes frame rest are e =
    let fields = spelled frame_form (shown frame) in
    let is = frames_meet.spelled bytes (shown frame) rest are (stands bytes frame rest are e) in
    (is.0.0, omega (arith, is.0.1, length-append (to_be_bytes w32 (length fields)) fields), is.1)

stands_there : (bytes : List ℕ) (frame : Frame) (rest : List ℕ) → IsInTable frame → length (spelling frame) ≤ most_bytes → bytes ≡ spelling frame ++ rest → frame_at bytes ≡ Some (frame, rest)
unfolding IsInTable spelling frame_at
stands_there bytes frame rest fits short is =
    let fields = spelled frame_form (shown frame) in
    let within : length fields ≤ most_fields = omega (arith, short, length-append (to_be_bytes w32 (length fields)) fields) in
    ap frame_by (ap frame_scan is ∙ frames_meet.again (shown frame) rest (fits, within)) ∙ ap (option_map {U = Frame × List ℕ} (λ f. (f, rest))) (decoded_back frame fits)

pub reading_meets_spelling : ReadingMeetsSpelling
reading_meets_spelling bytes frame rest are = (spelled_there bytes frame rest are, λ there. stands_there bytes frame rest there.0 there.1 there.2)
