-- What bytes are that a new reader is fed, one at a time.
use Rattle.std.proofs.Common.{◌≡◌, ℕ, ◌+◌, ◌-◌, ◌<◌, ◌≤◌, Bool, true, false, MatchBool, List, [], ◌∷◌, ◌++◌, length, take, drop, get_or, Option, Some, None, Ok, Err, refl, sym, ap, subst, ◌∙◌, append_assoc, append-nil, arith}
use Rattle.std.proofs.lemmas.List.{take_more, take_all, take-append-drop, length-append, length-drop}
use Rattle.frame_forms.specs.declared.bad_kind.BadKind.{BadKind}
use Rattle.frame_forms.specs.Scans.{Scan, whole, begun, bad}
use Rattle.frame_forms.specs.ScanLaws.{IsBytes}
use Rattle.frame_forms.specs.FrameTable.{Fields}
use Rattle.frame_forms.specs.Frames.{frame_spelling, frame_scan, place_in, first_bad}
use Rattle.frame_forms.proofs.FrameLawProofs.{frames_steady, frames_meet}
use Rattle.wire_frames.specs.declared.frame.Frame.{Frame}
use Rattle.wire_frames.specs.Frames.{shown, spelling, AreBytesOf}
use Rattle.wire_frames.proofs.LimitsLemmas.{frame_is_sent}
use Rattle.frame_reader.specs.declared.found.Found.{Found}
use Rattle.frame_reader.specs.declared.found.Found.TheVariants as founds
use Rattle.frame_reader.specs.Stages.{found_by, found_in, is_begun, fed}
use Rattle.frame_reader.proofs.Scanning.{fed_open}
use Rattle.frame_stream.proofs.StreamsLemmas.{none_begun}
use Rattle.frame_stream.specs.declared.reader.ReadFault.{ReadFault}
use Rattle.frame_stream.specs.declared.reader.ReadFault.TheVariants as faults
use Rattle.frame_stream.specs.Streams.{Comes}
use Rattle.vector_tables.specs.declared.verdict.Verdict.{Verdict}
use Rattle.vector_tables.specs.declared.verdict.Verdict.TheVariants as verdicts
use Rattle.vector_tables.specs.FrameCases.{Are, IsWritten}
use Rattle.vector_tables.proofs.CasesLemmas.{same_answer}

-- ---- what is found, and what is scanned

scan_begun : (bytes : List ℕ) → found_in bytes ≡ founds.Begun → frame_scan bytes ≡ begun
scan_begun bytes e = cases (frame_scan bytes) refl e
  where
    cases : (s : Scan Fields) → frame_scan bytes ≡ s → found_by bytes s ≡ founds.Begun → frame_scan bytes ≡ begun
    cases (whole a rest) is f = absurd cc
    cases begun is f = is
    cases (bad rest kind) is f = absurd cc

abbrev pub at_byte : ℕ → BadKind → Option (ℕ × BadKind)
at_byte place kind = Some (place, kind)

-- the place and the kind of what is found
abbrev place_of : Found → Option (ℕ × BadKind)
place_of (founds.Bad place kind) = Some (place, kind)
place_of founds.Begun = None
place_of founds.Whole = None

-- a bad byte is the first one, whatever comes behind it
bad_before : (front behind : List ℕ) (place : ℕ) (kind : BadKind) → found_in front ≡ founds.Bad place kind → first_bad (front ++ behind) ≡ Some (place, kind)
bad_before front behind place kind e = cases (frame_scan front) refl e
  where
    cases : (s : Scan Fields) → frame_scan front ≡ s → found_by front s ≡ founds.Bad place kind → first_bad (front ++ behind) ≡ Some (place, kind)
    cases (whole a rest) is f = absurd cc
    cases begun is f = absurd cc
    cases (bad rest wrong) is f =
        let t = frames_steady.stops front rest wrong is in
        let longer : frame_scan (front ++ behind) ≡ bad (t.byte ∷ (t.more ++ behind)) wrong =
        ap (λ (b : List ℕ). frame_scan (b ++ behind)) t.split ∙ ap frame_scan (append_assoc t.front (t.byte ∷ t.more) behind) ∙ t.after (t.more ++ behind) in
        let same : length (front ++ behind) - length (t.byte ∷ (t.more ++ behind)) ≡ length front - length rest =
        omega (arith, length-append front behind, length-append t.more behind, ap length t.split, length-append t.front (t.byte ∷ t.more), ap length t.from) in
        let there : first_bad (front ++ behind) ≡ at_byte (length (front ++ behind) - length (t.byte ∷ (t.more ++ behind))) wrong = ap (place_in (front ++ behind)) longer in
        let here : first_bad (front ++ behind) ≡ at_byte (length front - length rest) wrong = there ∙ ap (λ (n : ℕ). at_byte n wrong) same in
        here ∙ ap place_of f

-- ---- bytes that are fed

-- a reader has taken this many bytes, which begin a frame
pub record HasTaken (bytes : List ℕ) (n : ℕ) (reader : List ℕ) : Type 0 where
  pub taken : reader ≡ take n bytes
  pub begins : found_in reader ≡ founds.Begun

pub none_taken : (bytes reader : List ℕ) → reader ≡ [] → HasTaken bytes 0 reader
none_taken bytes reader e = record { taken = e; begins = ap found_in e ∙ none_begun }

module _ (bytes reader : List ℕ) (n byte : ℕ) where
  pub fed_next : HasTaken bytes n reader → n < length bytes → byte ≡ get_or bytes n 0 → fed reader byte ≡ take (n + 1) bytes
  fed_next so_far h is = fed_open reader byte (ap is_begun so_far.begins) ∙ ap (λ (b : List ℕ). b ++ byte ∷ []) so_far.taken ∙ ap (λ (b : ℕ). take n bytes ++ b ∷ []) is ∙ sym (take_more bytes n 0 h)

  pub one_more : (new : List ℕ) → HasTaken bytes n reader → n < length bytes → byte ≡ get_or bytes n 0 → Comes (Ok None) reader (fed reader byte) new → HasTaken bytes (n + 1) new
  one_more new so_far h is comes = record { taken = comes.1 ∙ fed_next so_far h is; begins = ap found_in comes.1 ∙ comes.0 }

  pub frame_in_front : (frame : Frame) (new : List ℕ) → HasTaken bytes n reader → n < length bytes → byte ≡ get_or bytes n 0 → Comes (Ok (Some frame)) reader (fed reader byte) new → AreBytesOf (take (n + 1) bytes) frame
  frame_in_front frame new so_far h is comes = subst (λ (b : List ℕ). AreBytesOf b frame) (fed_next so_far h is) comes.0

  pub bad_next : (place : ℕ) (kind : BadKind) (new : List ℕ) → HasTaken bytes n reader → n < length bytes → byte ≡ get_or bytes n 0 → Comes (Err (faults.Bad place kind)) reader (fed reader byte) new → first_bad bytes ≡ Some (place, kind)
  bad_next place kind new so_far h is comes =
      ap first_bad (sym (take-append-drop (n + 1) bytes)) ∙ bad_before (take (n + 1) bytes) (drop (n + 1) bytes) place kind (ap found_in (sym (fed_next so_far h is)) ∙ comes.0)

pub bad_found : (bytes reader : List ℕ) (n byte : ℕ) (fault : ReadFault) (place : ℕ) (kind : BadKind) (new : List ℕ) → HasTaken bytes n reader → n < length bytes → byte ≡ get_or bytes n 0 → fault ≡ faults.Bad place kind
    → Comes (Err fault) reader (fed reader byte) new → first_bad bytes ≡ Some (place, kind)
bad_found bytes reader n byte fault place kind new so_far h is e comes =
    bad_next bytes reader n byte place kind new so_far h is (subst (λ (f : ReadFault). Comes (Err f) reader (fed reader byte) new) e comes)

pub same_place : {place at : ℕ} {kind wrong : BadKind} → at ≡ place → wrong ≡ kind → at_byte place kind ≡ at_byte at wrong
same_place {place} {at} {kind} {wrong} e f = ap (λ (n : ℕ). at_byte n kind) (sym e) ∙ ap (at_byte at) (sym f)

-- all are taken
pub all_begun : (bytes reader : List ℕ) (n : ℕ) → HasTaken bytes n reader → length bytes ≤ n → frame_scan bytes ≡ begun
all_begun bytes reader n so_far h = scan_begun bytes (ap found_in (sym (so_far.taken ∙ take_all n bytes h)) ∙ so_far.begins)

-- ---- bytes that begin with a frame

abbrev rest_in : Scan Fields → List ℕ
rest_in (whole a rest) = rest
rest_in begun = []
rest_in (bad rest kind) = []

-- with bytes behind it they are none of the three
longer_are_none : (bytes : List ℕ) (a : Fields) (byte : ℕ) (rest : List ℕ) → frame_scan bytes ≡ whole a (byte ∷ rest) → (verdict : Verdict) → ¬ Are bytes verdict
unfolding AreBytesOf
longer_are_none bytes a byte rest e verdicts.Whole are = let wrong : byte ∷ rest ≡ [] = ap rest_in (sym e ∙ are.1) in absurd cc
longer_are_none bytes a byte rest e verdicts.Begun are = let wrong : whole a (byte ∷ rest) ≡ begun = sym e ∙ are in absurd cc
longer_are_none bytes a byte rest e (verdicts.Bad place kind) are = let wrong : None ≡ at_byte place kind = ap (place_in bytes) (sym e) ∙ are in absurd cc

frame_and_rest : (front behind : List ℕ) (frame : Frame) → AreBytesOf front frame → frame_scan (front ++ behind) ≡ whole (shown frame) behind
unfolding AreBytesOf
frame_and_rest front behind frame are =
    let t = frames_steady.takes front (shown frame) [] are in
    ap (λ (b : List ℕ). frame_scan (b ++ behind)) (t.split ∙ append-nil t.used) ∙ t.again behind

pub more_bytes : (bytes : List ℕ) (frame : Frame) (n : ℕ) → AreBytesOf (take n bytes) frame → n < length bytes → (verdict : Verdict) → ¬ Are bytes verdict
more_bytes bytes frame n are h = cases (drop n bytes) refl
  where
    cases : (rest : List ℕ) → drop n bytes ≡ rest → (verdict : Verdict) → ¬ Are bytes verdict
    cases [] e = absurd (omega (arith, h, ap length e, length-drop n bytes))
    cases (byte ∷ rest) e =
        longer_are_none bytes (shown frame) byte rest (ap frame_scan (sym (take-append-drop n bytes)) ∙ frame_and_rest (take n bytes) (drop n bytes) frame are ∙ ap (whole (shown frame)) e)

pub frame_alone : (bytes : List ℕ) (frame : Frame) (n : ℕ) → AreBytesOf (take n bytes) frame → length bytes ≤ n → AreBytesOf bytes frame
frame_alone bytes frame n are h = subst (λ (b : List ℕ). AreBytesOf b frame) (take_all n bytes h) are

-- it is spelled so again
pub written_again : (bytes : List ℕ) (frame : Frame) → IsBytes bytes → AreBytesOf bytes frame → IsWritten frame bytes
unfolding AreBytesOf spelling
written_again bytes frame each are =
    let s = frames_meet.spelled bytes (shown frame) [] each are in
    (sym (s.1 ∙ append-nil (frame_spelling (shown frame))), frame_is_sent frame s.0)

pub whole_frame : (bytes : List ℕ) (frame : Frame) → AreBytesOf bytes frame → IsWritten frame bytes → Are bytes verdicts.Whole
whole_frame bytes frame are written = (frame, are, written.0)

pub not_whole : (bytes : List ℕ) (frame : Frame) (n : ℕ) (b : Bool) → IsBytes bytes → AreBytesOf (take n bytes) frame → length bytes ≤ n → b ≡ false → MatchBool b (IsWritten frame bytes) (¬ IsWritten frame bytes) → (verdict : Verdict) → ¬ Are bytes verdict
not_whole bytes frame n true each are h e answer verdict is = absurd cc
not_whole bytes frame n false each are h e answer verdict is = answer (written_again bytes frame each (frame_alone bytes frame n are h))

-- ---- bytes are one thing

abbrev verdict_at : Option (ℕ × BadKind) → Verdict
verdict_at (Some (place, kind)) = verdicts.Bad place kind
verdict_at None = verdicts.Whole

pub one_verdict : (bytes : List ℕ) (one other : Verdict) → Are bytes one → Are bytes other → one ≡ other
unfolding AreBytesOf
one_verdict bytes verdicts.Whole verdicts.Whole is are = refl
one_verdict bytes verdicts.Whole verdicts.Begun is are = let wrong : whole (shown is.0) [] ≡ begun = sym is.1 ∙ are in absurd cc
one_verdict bytes verdicts.Whole (verdicts.Bad place kind) is are = let wrong : None ≡ at_byte place kind = ap (place_in bytes) (sym is.1) ∙ are in absurd cc
one_verdict bytes verdicts.Begun verdicts.Whole is are = let wrong : whole (shown are.0) [] ≡ begun = sym are.1 ∙ is in absurd cc
one_verdict bytes verdicts.Begun verdicts.Begun is are = refl
one_verdict bytes verdicts.Begun (verdicts.Bad place kind) is are = let wrong : None ≡ at_byte place kind = ap (place_in bytes) (sym is) ∙ are in absurd cc
one_verdict bytes (verdicts.Bad place kind) verdicts.Whole is are = let wrong : None ≡ at_byte place kind = ap (place_in bytes) (sym are.1) ∙ is in absurd cc
one_verdict bytes (verdicts.Bad place kind) verdicts.Begun is are = let wrong : None ≡ at_byte place kind = ap (place_in bytes) (sym are) ∙ is in absurd cc
one_verdict bytes (verdicts.Bad place kind) (verdicts.Bad at wrong) is are = ap verdict_at (sym is ∙ are)

pub verdict_answer : (bytes : List ℕ) (verdict expected : Verdict) (b : Bool) → Are bytes verdict → MatchBool b (verdict ≡ expected) (¬ (verdict ≡ expected)) → MatchBool b (Are bytes expected) (¬ Are bytes expected)
verdict_answer bytes verdict expected b is answer =
    same_answer (verdict ≡ expected) (Are bytes expected) b (λ same. subst (Are bytes) same is) (λ are. one_verdict bytes verdict expected is are) answer
