-- A frame that stands whole, the front of one, and what a byte comes to.
use Rattle.std.proofs.Common.{◌≡◌, ◌⊎◌, inl, inr, ℕ, ◌+◌, ◌-◌, ◌<◌, ◌≤◌, List, [], ◌∷◌, ◌++◌, length, take, drop, get_or, Option, Some, None, option_map, Result, Ok, Err, refl, sym, ap, subst, ◌∙◌, append_assoc, append-nil, arith}
use Rattle.std.specs.Prelude.{IfSome, IfNone}
use Rattle.std.proofs.lemmas.Bool.{cases_lt}
use Rattle.std.proofs.lemmas.List.{take_more, take-append-drop, length-append, length-drop, nil_from_length}
use Rattle.std.proofs.Math.Seq.{take-append_seam}
use Rattle.apt_base.proofs.FieldsLemmas.{some_is}
use Rattle.frame_forms.specs.declared.bad_kind.BadKind.{BadKind}
use Rattle.frame_forms.specs.Scans.{Scan, whole, begun, bad}
use Rattle.frame_forms.specs.ScanLaws.{IsBytes}
use Rattle.frame_forms.specs.FrameTable.{Fields, frame_form}
use Rattle.frame_forms.specs.Frames.{spelled, scanned, frame_scan}
use Rattle.frame_forms.proofs.FrameLawProofs.{frames_steady, frames_meet}
use Rattle.frame_forms.proofs.Framed.{take_short, range_is, begun_front}
use Rattle.frame_forms.proofs.FormsMeet.{scanned-meets}
use Rattle.frame_forms.proofs.Sound.{grammar_sound, frame_sound}
use Rattle.wire_frames.specs.declared.frame.Frame.{Frame}
use Rattle.wire_frames.specs.Frames.{shown, AreFieldsOf, AreBytesOf}
use Rattle.frame_decoder.specs.Decodings.{decoded, AreNoFields}
use Rattle.frame_reader.specs.declared.found.Found.{Found}
use Rattle.frame_reader.specs.declared.found.Found.TheVariants as founds
use Rattle.frame_reader.specs.Stages.{found_by, found_in, IsWholeFrame, is_begun, is_whole, fed, released, count_in, wanted_in}
use Rattle.frame_reader.proofs.Scanning.{frame_found, fed_open, fed_closed, released_whole}
use Rattle.frame_reader.proofs.Staging.{short_begun}
use Rattle.frame_reader.proofs.Wanted.{frame_is_long, found_begun, begun_within, last_wanted}
use Rattle.frame_stream.specs.declared.reader.ReadFault.{ReadFault}
use Rattle.frame_stream.specs.declared.reader.ReadFault.TheVariants as faults
use Rattle.frame_stream.specs.Streams.{frame_with, frame_by, frame_at, pending_by, pending, most_bytes, Comes}

-- ---- what is found

begun_found : (bytes : List ℕ) → frame_scan bytes ≡ begun → found_in bytes ≡ founds.Begun
begun_found bytes e = ap (found_by bytes) e

pub pending_begun : (bytes : List ℕ) → found_in bytes ≡ founds.Begun → pending bytes ≡ bytes
unfolding pending
pending_begun bytes e = ap (λ (found : Found). pending_by found bytes) e

pub pending_bad : (bytes : List ℕ) (place : ℕ) (kind : BadKind) → found_in bytes ≡ founds.Bad place kind → pending bytes ≡ bytes
unfolding pending
pending_bad bytes place kind e = ap (λ (found : Found). pending_by found bytes) e

pub pending_whole : (bytes : List ℕ) → IsWholeFrame bytes → pending bytes ≡ take (length bytes - 1) bytes
unfolding pending
pending_whole bytes is = ap (λ (found : Found). pending_by found bytes) (frame_found bytes is)

pub none_begun : found_in [] ≡ founds.Begun
none_begun = short_begun [] (omega arith)

pub pending_none : pending [] ≡ []
pending_none = pending_begun [] none_begun

-- ---- whole frames

-- the bytes are a frame
pub bytes_whole : (bytes : List ℕ) (frame : Frame) → AreBytesOf bytes frame → IsWholeFrame bytes
unfolding AreBytesOf
bytes_whole bytes frame e = (shown frame, e)

-- it stays where more bytes come
whole_grows : (bytes more : List ℕ) (a : Fields) (rest : List ℕ) → frame_scan bytes ≡ whole a rest → frame_scan (bytes ++ more) ≡ whole a (rest ++ more)
whole_grows bytes more a rest e =
    let t = frames_steady.takes bytes a rest e in
    ap (λ (b : List ℕ). frame_scan (b ++ more)) t.split ∙ ap frame_scan (append_assoc t.used rest more) ∙ t.again (rest ++ more)

-- and so does a bad byte
bad_grows : (bytes more rest : List ℕ) (kind : BadKind) → frame_scan bytes ≡ bad rest kind → (left : List ℕ) × (frame_scan (bytes ++ more) ≡ bad left kind)
bad_grows bytes more rest kind e =
    let t = frames_steady.stops bytes rest kind e in
    (t.byte ∷ (t.more ++ more), ap (λ (b : List ℕ). frame_scan (b ++ more)) t.split ∙ ap frame_scan (append_assoc t.front (t.byte ∷ t.more) more) ∙ t.after (t.more ++ more))

-- what is begun is in front of each byte of a frame
front_begun : (front : List ℕ) (byte : ℕ) (a : Fields) → frame_scan (front ++ byte ∷ []) ≡ whole a [] → frame_scan front ≡ begun
front_begun front byte a e = cases (frame_scan front) refl
  where
    left_of : Scan Fields → List ℕ
    left_of (whole y r) = r
    left_of begun = []
    left_of (bad r k) = r

    cases : (s : Scan Fields) → frame_scan front ≡ s → frame_scan front ≡ begun
    cases begun is = is
    cases (whole x rest) is =
        let none : rest ++ byte ∷ [] ≡ [] = ap left_of (sym (whole_grows front (byte ∷ []) x rest is) ∙ e) in
        absurd (omega (arith, ap length none, length-append rest (byte ∷ [])))
    cases (bad rest kind) is =
        let grown = bad_grows front (byte ∷ []) rest kind is in
        let wrong : bad grown.0 kind ≡ whole a [] = sym grown.1 ∙ e in
        absurd cc

-- the last of some bytes
last_is : (bytes : List ℕ) → 1 ≤ length bytes → (byte : ℕ) × (bytes ≡ take (length bytes - 1) bytes ++ byte ∷ [])
last_is bytes some = cases (drop (length bytes - 1) bytes) refl
  where
    cases : (rest : List ℕ) → drop (length bytes - 1) bytes ≡ rest → (byte : ℕ) × (bytes ≡ take (length bytes - 1) bytes ++ byte ∷ [])
    cases [] e = absurd (omega (arith, some, ap length e, length-drop (length bytes - 1) bytes))
    cases (byte ∷ more) e =
        let none : more ≡ [] = nil_from_length more (omega (arith, some, ap length e, length-drop (length bytes - 1) bytes)) in
        (byte, sym (take-append-drop (length bytes - 1) bytes) ∙ ap (λ (r : List ℕ). take (length bytes - 1) bytes ++ r) (e ∙ ap (λ (r : List ℕ). byte ∷ r) none))

pub without_last_begun : (bytes : List ℕ) → IsWholeFrame bytes → found_in (take (length bytes - 1) bytes) ≡ founds.Begun
without_last_begun bytes is =
    let front = take (length bytes - 1) bytes in
    let last = last_is bytes (omega (arith, frame_is_long bytes is)) in
    begun_found front (front_begun front last.0 is.0 (ap frame_scan (sym last.1) ∙ is.1))

pub take_all_but_one : (front : List ℕ) (byte : ℕ) → take (length (front ++ byte ∷ []) - 1) (front ++ byte ∷ []) ≡ front
take_all_but_one front byte = ap (λ (n : ℕ). take n (front ++ byte ∷ [])) less ∙ take-append_seam front (byte ∷ [])
  where
    less : length (front ++ byte ∷ []) - 1 ≡ length front
    less = omega (arith, length-append front (byte ∷ []))

-- ---- the frame in front

pub frame_at-begun : (bytes : List ℕ) → found_in bytes ≡ founds.Begun → frame_at bytes ≡ None
unfolding frame_at
frame_at-begun bytes e = ap frame_by (found_begun bytes e)

found_bad : (bytes : List ℕ) (place : ℕ) (kind : BadKind) → found_in bytes ≡ founds.Bad place kind → (rest : List ℕ) × (k : BadKind) × (frame_scan bytes ≡ bad rest k)
found_bad bytes place kind e = cases (frame_scan bytes) refl e
  where
    cases : (s : Scan Fields) → frame_scan bytes ≡ s → found_by bytes s ≡ founds.Bad place kind → (rest : List ℕ) × (k : BadKind) × (frame_scan bytes ≡ bad rest k)
    cases (whole a rest) is f = absurd cc
    cases begun is f = absurd cc
    cases (bad rest k) is f = (rest, k, is)

-- behind a bad byte none comes
pub frame_at-bad : (bytes more : List ℕ) (place : ℕ) (kind : BadKind) → found_in bytes ≡ founds.Bad place kind → frame_at (bytes ++ more) ≡ None
unfolding frame_at
frame_at-bad bytes more place kind e =
    let there = found_bad bytes place kind e in
    let grown = bad_grows bytes more there.0 there.1 there.2 in
    ap frame_by grown.1

option_grows : (o : Option Frame) (rest more : List ℕ) (found : Frame × List ℕ) → option_map {U = Frame × List ℕ} (λ frame. (frame, rest)) o ≡ Some found → option_map {U = Frame × List ℕ} (λ frame. (frame, rest ++ more)) o ≡ Some (found.0, found.1 ++ more)
option_grows None rest more found e = absurd cc
option_grows (Some frame) rest more found e = ap (λ (x : Frame × List ℕ). Some (x.0, x.1 ++ more)) (some_is (frame, rest) found e)

-- a frame stays in front where more bytes come
pub frame_at-append : (bytes more : List ℕ) (found : Frame × List ℕ) → frame_at bytes ≡ Some found → frame_at (bytes ++ more) ≡ Some (found.0, found.1 ++ more)
unfolding frame_at
frame_at-append bytes more found e = cases (frame_scan bytes) refl e
  where
    cases : (s : Scan Fields) → frame_scan bytes ≡ s → frame_by s ≡ Some found → frame_by (frame_scan (bytes ++ more)) ≡ Some (found.0, found.1 ++ more)
    cases (whole a rest) is f = ap frame_by (whole_grows bytes more a rest is) ∙ option_grows (frame_with a) rest more found f
    cases begun is f = absurd cc
    cases (bad rest kind) is f = absurd cc

-- ---- the beginning of a frame

-- a front of it, with the next byte
pub front_fed : (bytes front : List ℕ) (byte : ℕ) (behind : List ℕ) → found_in bytes ≡ founds.Begun → bytes ≡ front ++ byte ∷ behind → fed front byte ≡ front ++ byte ∷ []
front_fed bytes front byte behind e split =
    fed_open front byte (ap is_begun (begun_found front (begun_front frame_scan frames_steady front (byte ∷ behind) (ap frame_scan (sym split) ∙ found_begun bytes e))))

-- it is shorter than a frame can be
pub begun_short : (bytes : List ℕ) → frame_scan bytes ≡ begun → length bytes < most_bytes
begun_short bytes e = cases (cases_lt (length bytes) 4)
  where
    cases : (length bytes < 4) ⊎ (4 ≤ length bytes) → length bytes < most_bytes
    cases (inl lt) = omega (arith, lt)
    cases (inr le) = let within = begun_within bytes le e in omega (arith, within.1, (range_is (scanned frame_form) (count_in bytes) within.0).1)

-- ---- the tag and the fields

fields_whole : (bytes : List ℕ) (a : Fields) → IsBytes bytes → frame_scan bytes ≡ whole a [] → scanned frame_form (drop 4 bytes) ≡ whole a []
fields_whole bytes a are e =
    let s = frames_meet.spelled bytes a [] are e in
    ap (λ (b : List ℕ). scanned frame_form (drop 4 b)) s.1 ∙ (scanned-meets grammar_sound frame_form frame_sound).again a [] s.0.0

-- the bytes behind the length, as the code has them
abbrev fields_in : List ℕ → List ℕ
fields_in bytes = take (length bytes - 4) (drop 4 bytes)

fields_in-drop : (bytes : List ℕ) → fields_in bytes ≡ drop 4 bytes
fields_in-drop bytes = take_short (length bytes - 4) (drop 4 bytes) (omega (arith, length-drop 4 bytes))

frame_of_fields : (bytes : List ℕ) (frame : Frame) → IsBytes bytes → IsWholeFrame bytes → AreFieldsOf (fields_in bytes) frame → AreBytesOf bytes frame
unfolding AreFieldsOf AreBytesOf
frame_of_fields bytes frame are is fields = is.1 ∙ sym (fields_whole bytes is.0 are is.1) ∙ ap (scanned frame_form) (sym (fields_in-drop bytes)) ∙ fields

pub frame_is : (bytes : List ℕ) (found : Option Frame) (frame : Frame) → IsBytes bytes → IsWholeFrame bytes → found ≡ Some frame → IfSome found (λ f. AreFieldsOf (fields_in bytes) f) → AreBytesOf bytes frame
frame_is bytes found frame are is e fields = frame_of_fields bytes frame are is (subst (λ (o : Option Frame). IfSome o (λ f. AreFieldsOf (fields_in bytes) f)) e fields)

no_fields : (bytes : List ℕ) → IsBytes bytes → IsWholeFrame bytes → AreNoFields (fields_in bytes) → ⊥
unfolding AreNoFields
no_fields bytes are is none = none is.0 (ap (scanned frame_form) (fields_in-drop bytes) ∙ fields_whole bytes is.0 are is.1)

-- it stands in front
pub frame_stands : (bytes : List ℕ) (found : Option Frame) (frame : Frame) → IsBytes bytes → IsWholeFrame bytes → found ≡ Some frame → found ≡ decoded (fields_in bytes) → frame_at bytes ≡ Some (frame, [])
unfolding frame_at
frame_stands bytes found frame are is e exact =
    let s = frames_meet.spelled bytes is.0 [] are is.1 in
    let fields : fields_in bytes ≡ spelled frame_form is.0 = fields_in-drop bytes ∙ ap (drop 4) s.1 ∙ append-nil (spelled frame_form is.0) in
    ap frame_by is.1 ∙ ap (option_map {U = Frame × List ℕ} (λ f. (f, []))) (ap decoded (sym fields) ∙ sym exact ∙ e)

pub frame_is_there : (bytes : List ℕ) (found : Option Frame) → IsBytes bytes → IsWholeFrame bytes → found ≡ None → IfNone found (AreNoFields (fields_in bytes)) → ⊥
frame_is_there bytes found are is e none = no_fields bytes are is (subst (λ (o : Option Frame). IfNone o (AreNoFields (fields_in bytes))) e none)

-- ---- what a byte comes to

-- a bad byte is in front, or the byte is taken
fed_short : (old : List ℕ) (byte : ℕ) → length old ≤ most_bytes → length (fed old byte) ≤ most_bytes
fed_short old byte short = cases (found_in old) refl
  where
    cases : (found : Found) → found_in old ≡ found → length (fed old byte) ≤ most_bytes
    cases founds.Begun is = omega (arith, begun_short old (found_begun old is), ap length (fed_open old byte (ap is_begun is)), length-append old (byte ∷ []))
    cases founds.Whole is = omega (arith, short, ap length (fed_closed old byte (ap is_begun is)))
    cases (founds.Bad place kind) is = omega (arith, short, ap length (fed_closed old byte (ap is_begun is)))

pub stays_short : (result : Result (Option Frame) ReadFault) (old new : List ℕ) (byte : ℕ) → Comes result old (fed old byte) new → length old ≤ most_bytes → length new ≤ most_bytes
stays_short (Ok (Some frame)) old new byte comes short = omega (arith, ap length comes.1)
stays_short (Ok None) old new byte comes short = omega (arith, ap length comes.1, fed_short old byte short)
stays_short (Err (faults.Bad place kind)) old new byte comes short = omega (arith, ap length comes.1, fed_short old byte short)
stays_short (Err faults.Memory) old new byte comes short = omega (arith, ap length comes.1, short)

-- ---- what is answered

-- the byte was taken, and what is found behind it
pub goes_on : (old new : List ℕ) (byte : ℕ) (found : Found) → new ≡ fed old byte → found ≡ found_in new → found ≡ founds.Begun → (found_in (fed old byte) ≡ founds.Begun) × (pending new ≡ fed old byte)
goes_on old new byte found e is starts = (ap found_in (sym e) ∙ sym is ∙ starts, pending_begun new (sym is ∙ starts) ∙ e)

pub turns_bad : (old new : List ℕ) (byte place : ℕ) (kind : BadKind) (found : Found) → new ≡ fed old byte → found ≡ found_in new → found ≡ founds.Bad place kind
    → (found_in (fed old byte) ≡ founds.Bad place kind) × (pending new ≡ fed old byte)
turns_bad old new byte place kind found e is wrong = (ap found_in (sym e) ∙ sym is ∙ wrong, pending_bad new place kind (sym is ∙ wrong) ∙ e)

pub given : (old new left : List ℕ) (byte : ℕ) (frame : Frame) → new ≡ fed old byte → AreBytesOf new frame → frame_at new ≡ Some (frame, []) → left ≡ [] → Comes (Ok (Some frame)) old (fed old byte) (pending left)
given old new left byte frame e is stands none = (subst (λ (bytes : List ℕ). AreBytesOf bytes frame) e is, ap pending none ∙ pending_none, ap frame_at (sym e) ∙ stands)

-- without memory for the byte, or for the frame that it ends
pub not_taken : (old new : List ℕ) → found_in old ≡ founds.Begun → new ≡ old → (found_in old ≡ founds.Begun) × (pending new ≡ old)
not_taken old new starts e = (starts, ap pending e ∙ pending_begun old starts)

pub not_given : (old new left : List ℕ) (byte : ℕ) → found_in old ≡ founds.Begun → new ≡ fed old byte → IsWholeFrame new → left ≡ new → (found_in old ≡ founds.Begun) × (pending left ≡ old)
not_given old new left byte starts e is same =
    let more : new ≡ old ++ byte ∷ [] = e ∙ fed_open old byte (ap is_begun starts) in
    (starts, ap pending same ∙ pending_whole new is ∙ ap (λ (bytes : List ℕ). take (length bytes - 1) bytes) more ∙ take_all_but_one old byte)

-- ---- by what is found before the byte

pub stays_bad : (old : List ℕ) (byte place : ℕ) (kind : BadKind) (found : Found) → found ≡ found_in old → found ≡ founds.Bad place kind
    → (found_in (fed (pending old) byte) ≡ founds.Bad place kind) × (pending old ≡ fed (pending old) byte)
stays_bad old byte place kind found is wrong =
    let bad_there = sym is ∙ wrong in
    let same = pending_bad old place kind bad_there in
    let nothing : fed (pending old) byte ≡ old = ap (λ (bytes : List ℕ). fed bytes byte) same ∙ fed_closed old byte (ap is_begun bad_there) in
    (ap found_in nothing ∙ bad_there, same ∙ sym nothing)

pub from_begun : (result : Result (Option Frame) ReadFault) (old new : List ℕ) (byte : ℕ) → found_in old ≡ founds.Begun → Comes result old (fed old byte) new → Comes result (pending old) (fed (pending old) byte) new
from_begun result old new byte starts = subst (λ (bytes : List ℕ). Comes result bytes (fed bytes byte) new) (sym (pending_begun old starts))

pub from_whole : (result : Result (Option Frame) ReadFault) (old front new : List ℕ) (byte : ℕ) → IsWholeFrame old → front ≡ take (length old - 1) old → Comes result front (fed front byte) new → Comes result (pending old) (fed (pending old) byte) new
from_whole result old front new byte is e = subst (λ (bytes : List ℕ). Comes result bytes (fed bytes byte) new) (e ∙ sym (pending_whole old is))

pub front_is_begun : (old front : List ℕ) → IsWholeFrame old → front ≡ take (length old - 1) old → found_in front ≡ founds.Begun
front_is_begun old front is e = ap found_in e ∙ without_last_begun old is

pub pending_is_begun : (old : List ℕ) → IsWholeFrame old → found_in (pending old) ≡ founds.Begun
pending_is_begun old is = ap found_in (pending_whole old is) ∙ without_last_begun old is

-- ---- bytes that are taken anew

pub byte_more : (bytes taken next : List ℕ) (i byte d : ℕ) → found_in bytes ≡ founds.Begun → i < length bytes → byte ≡ get_or bytes i d → taken ≡ take i bytes → next ≡ fed taken byte → next ≡ take (i + 1) bytes
byte_more bytes taken next i byte d starts lt is so_far e =
    let more : take (i + 1) bytes ≡ take i bytes ++ byte ∷ [] = take_more bytes i d lt ∙ ap (λ (b : ℕ). take i bytes ++ b ∷ []) (sym is) in
    let split : bytes ≡ take i bytes ++ byte ∷ drop (i + 1) bytes =
    sym (take-append-drop (i + 1) bytes) ∙ ap (λ (front : List ℕ). front ++ drop (i + 1) bytes) more ∙ append_assoc (take i bytes) (byte ∷ []) (drop (i + 1) bytes) in
    e ∙ ap (λ (front : List ℕ). fed front byte) so_far ∙ front_fed bytes (take i bytes) byte (drop (i + 1) bytes) starts split ∙ sym more

pub released_none : (bytes : List ℕ) → IsWholeFrame bytes → released bytes ≡ []
released_none bytes is = released_whole bytes (ap is_whole (frame_found bytes is))

-- ---- bytes that come next

pub wanted_whole : (bytes : List ℕ) → IsWholeFrame bytes → 1 ≡ wanted_in (pending bytes)
wanted_whole bytes is =
    let front = take (length bytes - 1) bytes in
    let last = last_is bytes (omega (arith, frame_is_long bytes is)) in
    sym (ap wanted_in (pending_whole bytes is) ∙ last_wanted front last.0 (without_last_begun bytes is) (subst IsWholeFrame last.1 is))
