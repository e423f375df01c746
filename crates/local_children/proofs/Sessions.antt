-- Bytes behind bytes, and frames behind frames, in a session.
use Rattle.std.proofs.Common.{◌≡◌, ℕ, ◌<◌, List, [], ◌∷◌, ◌++◌, length, Some, Result, Ok, Err, flat_map, refl, sym, ap, ◌∙◌, append_assoc, append-nil, length-append, arith}
use Rattle.std.specs.Prelude.{option_map}
use Rattle.std.specs.Int.{w32, to_be_bytes}
use Rattle.frame_forms.specs.Scans.{begun}
use Rattle.frame_forms.specs.FrameTable.{frame_form}
use Rattle.frame_forms.specs.Frames.{IsFrame, spelled, frame_spelling, frame_scan}
use Rattle.frame_forms.proofs.FrameLawProofs.{frames_steady, frames_meet, fronts_are_begun}
use Rattle.frame_forms.proofs.Framed.{begun_front}
use Rattle.wire_frames.specs.declared.frame.Frame.{Frame}
use Rattle.wire_frames.specs.Frames.{shown, spelling, IsInTable}
use Rattle.frame_decoder.proofs.ReadBack.{decoded_back}
use Rattle.frame_reader.specs.declared.found.Found.TheVariants as founds
use Rattle.frame_reader.specs.Stages.{found_by, found_in}
use Rattle.frame_stream.specs.Streams.{frame_by, frame_at}
use Rattle.frame_breaches.specs.declared.breach.Breach.{Breach}
use Rattle.frame_breaches.specs.declared.breach.Breach.TheVariants.{Ended, Bad, Wrong}
use Rattle.frame_breaches.specs.Breaches.{Front, front_of}
use Rattle.frame_breaches.proofs.FrontsOfBytes.{front_is, front_begun}
use Rattle.local_procs.specs.declared.local.Local.{Local}
use Rattle.local_procs.specs.Says.{At, Unbegun, Answer, step}
use Rattle.local_children.specs.Streams.{Open, Session, unbegun, over, answered, heard, longer, next_by, next, after, session_of, said_with, said, open_session}
use Rattle.local_children.specs.StreamLaws.{IsLengthened, EndsAtBreach, IsSpelled, AreSpelled, SaysLaws}

-- ---- bytes behind bytes

pub after-append : (local : Local) (session : Session) (bytes more : List ℕ) → after local session (bytes ++ more) ≡ after local (after local session bytes) more
unfolding after
after-append local session [] more = refl
after-append local session (byte ∷ bytes) more = after-append local (next local session byte) bytes more

-- what is written is longer
abbrev IsLonger : List ℕ → List ℕ → Type 0
IsLonger old new = (rest : List ℕ) × (new ≡ old ++ rest)

same_longer : (written : List ℕ) → IsLonger written written
same_longer written = ([], sym (append-nil written))

longer_then : (a b c : List ℕ) → IsLonger a b → IsLonger b c → IsLonger a c
longer_then a b c first second = (first.0 ++ second.0, second.1 ∙ ap (λ (x : List ℕ). x ++ second.0) first.1 ∙ append_assoc a first.0 second.0)

answered_longer : (written : List ℕ) (answer : Result Answer Breach) → IsLonger written (answered written answer).written
answered_longer written (Ok answer) = (spelling answer.0, refl)
answered_longer written (Err breach) = same_longer written

heard_longer : (local : Local) (written : List ℕ) (talk : Open) (front : Front) → IsLonger written (heard local written talk front).written
heard_longer local written talk (Ok first) = answered_longer written (step local talk.0 first.0)
heard_longer local written talk (Err (Ended got)) = same_longer written
heard_longer local written talk (Err (Bad place kind)) = same_longer written
heard_longer local written talk (Err (Wrong tag)) = same_longer written

next_longer : (local : Local) (written : List ℕ) (byte : ℕ) (stands : Result Open Breach) → IsLonger written (next_by local written byte stands).written
next_longer local written byte (Ok talk) = heard_longer local written (longer talk byte) (front_of (talk.1 ++ byte ∷ []))
next_longer local written byte (Err breach) = same_longer written

pub after_longer : (local : Local) (session : Session) (bytes : List ℕ) → IsLonger session.written (after local session bytes).written
unfolding after
after_longer local session [] = same_longer session.written
after_longer local session (byte ∷ bytes) =
    longer_then session.written (next local session byte).written (after local (next local session byte) bytes).written
    (next_longer local session.written byte session.stands) (after_longer local (next local session byte) bytes)

-- ---- behind a breach

pub after_breach : (local : Local) (written : List ℕ) (breach : Breach) (bytes : List ℕ) → after local (over written breach) bytes ≡ over written breach
unfolding after
after_breach local written breach [] = refl
after_breach local written breach (byte ∷ bytes) = after_breach local written breach bytes

abbrev pub with_stands : List ℕ → Result Open Breach → Session
with_stands written stands = record { written = written; stands = stands }

pub session_is : (session : Session) (stands : Result Open Breach) → session.stands ≡ stands → session ≡ with_stands session.written stands
session_is session stands is = ap (with_stands session.written) is

pub stays_over : (local : Local) (session : Session) (bytes : List ℕ) (breach : Breach) → session.stands ≡ Err breach → after local session bytes ≡ session
stays_over local session bytes breach is =
    let same = session_is session (Err breach) is in
    ap (λ (s : Session). after local s bytes) same ∙ after_breach local session.written breach bytes ∙ sym same

-- ---- the bytes of a frame

-- one byte more of a frame that is begun
next_begun : (local : Local) (written : List ℕ) (at : At) (bytes : List ℕ) (byte : ℕ) → found_in (bytes ++ byte ∷ []) ≡ founds.Begun
    → next local (open_session written (at, bytes)) byte ≡ open_session written (at, bytes ++ byte ∷ [])
next_begun local written at bytes byte begins = ap (heard local written (at, bytes ++ byte ∷ [])) (front_begun (bytes ++ byte ∷ []) begins)

-- bytes behind which each front of a frame is begun
abbrev AreFronts : List ℕ → List ℕ → Type 0
AreFronts bytes piece = (front : List ℕ) (byte : ℕ) (back : List ℕ) → piece ≡ front ++ byte ∷ back → found_in ((bytes ++ front) ++ byte ∷ []) ≡ founds.Begun

pub after_fronts : (local : Local) (written : List ℕ) (at : At) (bytes piece : List ℕ) → AreFronts bytes piece
    → after local (open_session written (at, bytes)) piece ≡ open_session written (at, bytes ++ piece)
unfolding after
after_fronts local written at bytes [] are = ap (λ (b : List ℕ). open_session written (at, b)) (sym (append-nil bytes))
after_fronts local written at bytes (byte ∷ piece) are =
    ap (λ (s : Session). after local s piece) (next_begun local written at bytes byte (ap (λ (b : List ℕ). found_in (b ++ byte ∷ [])) (sym (append-nil bytes)) ∙ are [] byte piece refl))
    ∙ after_fronts local written at (bytes ++ byte ∷ []) piece (λ front last back split.
    ap (λ (b : List ℕ). found_in (b ++ last ∷ [])) (append_assoc bytes (byte ∷ []) front) ∙ are (byte ∷ front) last back (ap (λ (p : List ℕ). byte ∷ p) split))
    ∙ ap (λ (b : List ℕ). open_session written (at, b)) (append_assoc bytes (byte ∷ []) piece)

-- the byte that ends a frame
pub next_whole : (local : Local) (written : List ℕ) (at : At) (bytes : List ℕ) (byte : ℕ) (first : Frame × List ℕ) → frame_at (bytes ++ byte ∷ []) ≡ Some first
    → next local (open_session written (at, bytes)) byte ≡ answered written (step local at first.0)
next_whole local written at bytes byte first there = ap (heard local written (at, bytes ++ byte ∷ [])) (front_is (bytes ++ byte ∷ []) first there)

-- ---- what was written before

abbrev pub prefixed : List ℕ → Session → Session
prefixed front session = record { written = front ++ session.written; stands = session.stands }

answered_prefixed : (front written : List ℕ) (answer : Result Answer Breach) → answered (front ++ written) answer ≡ prefixed front (answered written answer)
answered_prefixed front written (Ok answer) = ap (λ (w : List ℕ). open_session w (answer.1, [])) (append_assoc front written (spelling answer.0))
answered_prefixed front written (Err breach) = refl

heard_prefixed : (local : Local) (front written : List ℕ) (talk : Open) (f : Front) → heard local (front ++ written) talk f ≡ prefixed front (heard local written talk f)
heard_prefixed local front written talk (Ok first) = answered_prefixed front written (step local talk.0 first.0)
heard_prefixed local front written talk (Err (Ended got)) = refl
heard_prefixed local front written talk (Err (Bad place kind)) = refl
heard_prefixed local front written talk (Err (Wrong tag)) = refl

next_prefixed : (local : Local) (front written : List ℕ) (byte : ℕ) (stands : Result Open Breach) → next_by local (front ++ written) byte stands ≡ prefixed front (next_by local written byte stands)
next_prefixed local front written byte (Ok talk) = heard_prefixed local front written (longer talk byte) (front_of (talk.1 ++ byte ∷ []))
next_prefixed local front written byte (Err breach) = refl

pub after_prefixed : (local : Local) (front : List ℕ) (session : Session) (bytes : List ℕ) → after local (prefixed front session) bytes ≡ prefixed front (after local session bytes)
unfolding after
after_prefixed local front session [] = refl
after_prefixed local front session (byte ∷ bytes) =
    ap (λ (s : Session). after local s bytes) (next_prefixed local front session.written byte session.stands) ∙ after_prefixed local front (next local session byte) bytes

-- ---- frame by frame

last_of : (bytes : List ℕ) → 0 < length bytes → (front : List ℕ) × (byte : ℕ) × (bytes ≡ front ++ byte ∷ [])
last_of [] some = absurd (omega (arith, some))
last_of (byte ∷ []) some = ([], byte, refl)
last_of (byte ∷ other ∷ more) some =
    let rest = last_of (other ∷ more) (omega arith) in
    (byte ∷ rest.0, rest.1, ap (λ (b : List ℕ). byte ∷ b) rest.2)

-- bytes that begin a frame have fronts that do
pub begun_fronts : (bytes piece : List ℕ) → frame_scan (bytes ++ piece) ≡ begun → AreFronts bytes piece
begun_fronts bytes piece begins front byte back split =
    let whole : bytes ++ piece ≡ ((bytes ++ front) ++ byte ∷ []) ++ back =
    ap (λ (p : List ℕ). bytes ++ p) split ∙ sym (append_assoc bytes front (byte ∷ back)) ∙ sym (append_assoc (bytes ++ front) (byte ∷ []) back) in
    ap (found_by ((bytes ++ front) ++ byte ∷ [])) (begun_front frame_scan frames_steady ((bytes ++ front) ++ byte ∷ []) back (ap frame_scan (sym whole) ∙ begins))

-- a frame that ends with this byte
pub after_whole : (local : Local) (written : List ℕ) (at : At) (bytes front : List ℕ) (byte : ℕ) (frame : Frame) → frame_scan (bytes ++ front) ≡ begun
    → frame_at ((bytes ++ front) ++ byte ∷ []) ≡ Some (frame, []) → after local (open_session written (at, bytes)) (front ++ byte ∷ []) ≡ answered written (step local at frame)
unfolding after
after_whole local written at bytes front byte frame begins there =
    after-append local (open_session written (at, bytes)) front (byte ∷ [])
    ∙ ap (λ (s : Session). after local s (byte ∷ [])) (after_fronts local written at bytes front (begun_fronts bytes front begins))
    ∙ next_whole local written at (bytes ++ front) byte (frame, []) there

spelled_fits : (frame : Frame) → IsSpelled frame → IsFrame (shown frame)
unfolding IsInTable spelling
spelled_fits frame is =
    let fields = spelled frame_form (shown frame) in
    (is.0, omega (arith, is.1, length-append (to_be_bytes w32 (length fields)) fields))

-- it stands in front of its spelling
spelled_there : (frame : Frame) → IsSpelled frame → frame_at (spelling frame) ≡ Some (frame, [])
unfolding spelling frame_at IsInTable
spelled_there frame is =
    ap frame_by (ap frame_scan (sym (append-nil (frame_spelling (shown frame)))) ∙ frames_meet.again (shown frame) [] (spelled_fits frame is))
    ∙ ap (option_map {U = Frame × List ℕ} (λ f. (f, []))) (decoded_back frame is.0)

spelled_some : (frame : Frame) → 0 < length (spelling frame)
unfolding spelling
spelled_some frame = let fields = spelled frame_form (shown frame) in omega (arith, length-append (to_be_bytes w32 (length fields)) fields)

spelled_fronts : (frame : Frame) → IsSpelled frame → (front : List ℕ) (byte : ℕ) → spelling frame ≡ front ++ byte ∷ [] → frame_scan front ≡ begun
unfolding spelling
spelled_fronts frame is front byte split = fronts_are_begun (shown frame) (spelled_fits frame is) front byte [] split

pub after_frame : (local : Local) (written : List ℕ) (at : At) (frame : Frame) → IsSpelled frame
    → after local (open_session written (at, [])) (spelling frame) ≡ answered written (step local at frame)
after_frame local written at frame is =
    let last = last_of (spelling frame) (spelled_some frame) in
    ap (after local (open_session written (at, []))) last.2
    ∙ after_whole local written at [] last.0 last.1 frame (spelled_fronts frame is last.0 last.1 last.2) (ap frame_at (sym last.2) ∙ spelled_there frame is)

-- to whole frames the answers are written
pub after_frames : (local : Local) (written : List ℕ) (at : At) (frames : List Frame) → AreSpelled frames
    → (after local (open_session written (at, [])) (flat_map spelling frames)).written ≡ written ++ flat_map spelling (said local at frames)
unfolding after said AreSpelled
after_frames local written at [] are = sym (append-nil written)
after_frames local written at (frame ∷ frames) are =
    ap (λ (s : Session). s.written) (after-append local (open_session written (at, [])) (spelling frame) (flat_map spelling frames)
    ∙ ap (λ (s : Session). after local s (flat_map spelling frames)) (after_frame local written at frame are.0))
    ∙ by_answer (step local at frame) (λ more next. after_frames local more next frames are.1)
  where
    by_answer : (answer : Result Answer Breach)
        → ((more : List ℕ) (next : At) → (after local (open_session more (next, [])) (flat_map spelling frames)).written ≡ more ++ flat_map spelling (said local next frames))
        → (after local (answered written answer) (flat_map spelling frames)).written ≡ written ++ flat_map spelling (said_with (λ next. said local next frames) answer)
    by_answer (Ok answer) later = later (written ++ spelling answer.0) answer.1 ∙ append_assoc written (spelling answer.0) (flat_map spelling (said local answer.1 frames))
    by_answer (Err breach) later = ap (λ (s : Session). s.written) (after_breach local written breach (flat_map spelling frames)) ∙ sym (append-nil written)

-- ---- the laws

pub is_lengthened : IsLengthened
is_lengthened local bytes more =
    let longer = after_longer local (session_of local bytes) more in
    (longer.0, ap (λ (s : Session). s.written) (after-append local unbegun bytes more) ∙ longer.1)

pub ends_at_breach : EndsAtBreach
ends_at_breach local bytes more breach is = after-append local unbegun bytes more ∙ stays_over local (session_of local bytes) more breach is

pub says_laws : SaysLaws
says_laws = record {
  lengthened = is_lengthened;
  ends = ends_at_breach;
  in_turn = λ local frames are. after_frames local [] Unbegun frames are;
}
