-- What a child with one of the processors has written once it has read bytes of its host.
use Rattle.std.specs.Prelude.{ℕ, ◌-◌, Bool, false, true, List, [], ◌∷◌, ◌++◌, length, drop, codes, flat_map, if◌then◌else◌, Option, None, Some, Result, Ok, Err}
use Rattle.std.specs.Str.{bytes_eq}
use Rattle.apt_outside.specs.Child.{Says}
use Rattle.wire_frames.specs.declared.frame.Frame.{Frame}
use Rattle.wire_frames.specs.Frames.{spelling}
use Rattle.frame_breaches.specs.declared.breach.Breach.{Breach}
use Rattle.frame_breaches.specs.declared.breach.Breach.TheVariants.{Ended, Bad, Wrong}
use Rattle.frame_breaches.specs.Breaches.{Front, front_of}
use Rattle.local_procs.specs.declared.local.Local.{Local}
use Rattle.local_procs.specs.declared.local.Local.TheVariants.{Builder, Checker, Chain, Registry}
use Rattle.local_procs.specs.Says.{At, Unbegun, Answer, step}

-- ---- names

-- the processor of a name
abbrev pub local_named : List ℕ → Option Local
local_named name =
    if bytes_eq name (codes "builder") then Some Builder
    else (if bytes_eq name (codes "checker") then Some Checker
    else (if bytes_eq name (codes "chain") then Some Chain
    else (if bytes_eq name (codes "registry") then Some Registry
    else None)))

abbrev pub local_by : List (List ℕ) → Option Local
local_by (word ∷ name ∷ []) = if bytes_eq word (codes "serve") then local_named name else None
local_by other = None

-- the processor of a command, whose last two words are `serve` and its name
abbrev pub local_in : List (List ℕ) → Option Local
local_in command = local_by (drop (length command - 2) command)

-- ---- a session, byte by byte

-- where a child stands, and the bytes that begin the next frame of its host
abbrev pub Open : Type 0
Open = At × List ℕ

-- all that the child has written, and where it stands, or how its host has left the protocol
pub record Session : Type 0 where
  pub written : List ℕ
  pub stands : Result Open Breach

-- a processor, where its child stands, and the bytes that begin the next frame of its host
abbrev pub Stand : Type 0
Stand = Local × Open

-- a child that has written this goes on
abbrev pub open_session : List ℕ → Open → Session
open_session written talk = record { written = written; stands = Ok talk }

abbrev pub unbegun : Session
unbegun = record { written = []; stands = Ok (Unbegun, []) }

-- its host has left the protocol
abbrev pub over : List ℕ → Breach → Session
over written breach = record { written = written; stands = Err breach }

-- a frame is answered by a frame, or it may not come
abbrev pub answered : List ℕ → Result Answer Breach → Session
answered written (Ok answer) = record { written = written ++ spelling answer.0; stands = Ok (answer.1, []) }
answered written (Err breach) = over written breach

-- by what the bytes since the last frame are: a frame, or the beginning of one, or bad
abbrev pub heard : Local → List ℕ → Open → Front → Session
heard local written talk (Ok first) = answered written (step local talk.0 first.0)
heard local written talk (Err (Ended got)) = record { written = written; stands = Ok talk }
heard local written talk (Err (Bad place kind)) = over written (Bad place kind)
heard local written talk (Err (Wrong tag)) = over written (Wrong tag)

abbrev pub longer : Open → ℕ → Open
longer talk byte = (talk.0, talk.1 ++ byte ∷ [])

-- behind a breach nothing is heard
abbrev pub next_by : Local → List ℕ → ℕ → Result Open Breach → Session
next_by local written byte (Ok talk) = heard local written (longer talk byte) (front_of (talk.1 ++ byte ∷ []))
next_by local written byte (Err breach) = over written breach

-- with the next byte of the host
abbrev pub next : Local → Session → ℕ → Session
next local session byte = next_by local session.written byte session.stands

-- with these bytes, one by one
unfoldable pub after : Local → Session → List ℕ → Session
after local session [] = session
after local session (byte ∷ bytes) = after local (next local session byte) bytes

-- the session once it has read these bytes
abbrev pub session_of : Local → List ℕ → Session
session_of local bytes = after local unbegun bytes

-- all that a child with this processor has written once it has read these bytes
abbrev pub says : Local → List ℕ → List ℕ
says local bytes = (session_of local bytes).written

abbrev pub says_by : Option Local → List (List ℕ) → List ℕ
says_by None frames = []
says_by (Some local) frames = says local (flat_map (λ frame. frame) frames)

-- all that a child has written, by its name, its command and the frames that it was sent
abbrev pub says_of : Says
says_of name command frames = says_by (local_in command) frames

-- ---- where the bytes end

-- whether a frame has come
abbrev pub has_begun : At → Bool
has_begun Unbegun = false
has_begun at = true

-- between frames, behind Init
abbrev pub is_between : Bool → List ℕ → Bool
is_between begun [] = begun
is_between begun (byte ∷ bytes) = false

abbrev pub end_by : Result Open Breach → Result Unit Breach
end_by (Ok talk) = if is_between (has_begun talk.0) talk.1 then Ok tt else Err (Ended (length talk.1))
end_by (Err breach) = Err breach

-- how a session ends where no more bytes will come: well between frames behind Init, or by a breach
abbrev pub ending : Session → Result Unit Breach
ending session = end_by session.stands

-- ---- frame by frame

abbrev pub said_with : (At → List Frame) → Result Answer Breach → List Frame
said_with go (Ok answer) = answer.0 ∷ go answer.1
said_with go (Err breach) = []

-- what a child says to these frames, one after another; behind one that may not come it says nothing more
unfoldable pub said : Local → At → List Frame → List Frame
said local at [] = []
said local at (frame ∷ frames) = said_with (λ next. said local next frames) (step local at frame)
