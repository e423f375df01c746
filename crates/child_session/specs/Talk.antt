-- What a child says to the frames that it was sent: the frame at each place of its stream, and what the answer to a round comes to.
use Rattle.std.specs.Prelude.{◌≡◌, ◌⊎◌, ◌<◌, ℕ, zero, suc, ◌-◌, List, [], ◌∷◌, ◌++◌, length, Option, Some, option_and_then, Result, Ok, Err, IsOk, IsErrOf, IfSome, IsSomeAnd}
use Rattle.apt_outside.specs.Child.{Says, Child, State, OfChild, StaysSent, written_by}
use Rattle.apt_outside.specs.declared.fault.Fault.{Fault}
use Rattle.apt_outside.specs.declared.fault.Fault.TheVariants.{Failed, Memory}
use Rattle.wire_frames.specs.declared.frame.Frame.{Frame}
use Rattle.frame_reader.specs.declared.found.Found.TheVariants as founds
use Rattle.frame_reader.specs.Stages.{found_in}
use Rattle.frame_stream.specs.declared.reader.ReadFault.{ReadFault}
use Rattle.frame_stream.specs.Streams.{frame_at, ComesOf}
use Rattle.frame_breaches.specs.declared.breach.Breach.{Breach}
use Rattle.frame_breaches.specs.Breaches.{front_of, front_behind, frame_in}
use Rattle.child_session.specs.declared.receiving.Progress.{Progress}
use Rattle.child_session.specs.declared.receiving.Progress.TheVariants.{Begun, Over}

-- all that a child writes, by the frames that it was sent
abbrev pub Stream : Type 0
Stream = List (List ℕ) → List ℕ

-- what follows this many whole frames
unfoldable pub rest_after : ℕ → List ℕ → Option (List ℕ)
rest_after zero bytes = Some bytes
rest_after (suc n) bytes = option_and_then (λ x. rest_after n x.1) (frame_at bytes)

-- a frame, or how the child's bytes leave the protocol where it was to come
abbrev pub Answer : Type 0
Answer = Result Frame Breach

-- The answer to the last frame that was sent. A child answers each frame by one, so it stands behind as many as
-- frames were sent before, and it is whole once this one is sent.
abbrev pub answer_to : Stream → List (List ℕ) → Answer
answer_to stream sent = frame_in (front_behind (length sent - 1) (stream sent))

-- a child that has answered each frame that it was sent, and no byte of an answer waits
abbrev pub HasAnswered : Says → Child → Type 0
HasAnswered says child = rest_after (length child.sent) (written_by says child) ≡ Some child.waiting

-- a fact of a child that had answered each frame, and of the same child later
abbrev pub WasAnswered : ℕ → State → State → (Child → Child → Type 0) → Type 0
WasAnswered child old new P = IfSome (old.known child) (λ before. HasAnswered old.says before → IsSomeAnd (new.known child) (P before))

-- a frame was sent to the child, and this is the answer to it
pub record Exchanged (says : Says) (frame : List ℕ) (answer : Answer) (before after : Child) : Type 0 where
  pub name : after.name ≡ before.name
  pub command : after.command ≡ before.command
  pub sent : after.sent ≡ before.sent ++ frame ∷ []
  pub answer_is : answer ≡ answer_to (says before.name before.command) after.sent
  pub answered : IsOk answer → HasAnswered says after

pub record Exchanges (child : ℕ) (frame : List ℕ) (old new : State) (answer : Answer) : Type 0 where
  pub exchanged : WasAnswered child old new (Exchanged old.says frame answer)

-- the child was sent this frame, or nothing
abbrev pub SentOrNot : ℕ → List ℕ → State → State → Type 0
SentOrNot child frame old new = OfChild child old new (λ before after. (after.sent ≡ before.sent) ⊎ (after.sent ≡ before.sent ++ frame ∷ []))

-- What the child was sent by a call that sends this frame: the frame, and after out of memory the frame or nothing. After a fault
-- of the children it is not told.
abbrev pub SendsOnce : ℕ → List ℕ → State → State → Result Answer Fault → Type 0
SendsOnce child frame old new (Ok answer) = OfChild child old new (λ before after. after.sent ≡ before.sent ++ frame ∷ [])
SendsOnce child frame old new (Err Memory) = SentOrNot child frame old new
SendsOnce child frame old new (Err Failed) = Unit {0}

-- a call that sends nothing, after out of memory
abbrev pub StaysAtMemory : {T : Type 0} → ℕ → State → State → Result T Fault → Type 0
StaysAtMemory child old new result = IsErrOf result Memory → StaysSent child old new

-- these bytes were taken from the front of those that wait
pub record TakesBytes (child : ℕ) (old new : State) (bytes : List ℕ) : Type 0 where
  pub split : OfChild child old new (λ before after. (after.sent ≡ before.sent) × (before.waiting ≡ bytes ++ after.waiting))

-- bytes were taken from the front of those that wait, and added to these
pub record TakesMore (child : ℕ) (old new : State) (bytes bytes' : List ℕ) : Type 0 where
  pub more : List ℕ
  pub added : bytes' ≡ bytes ++ more
  pub taken : TakesBytes child old new more

-- the frame that stands first was taken from the bytes that wait, or none stands there
abbrev pub FindsFrame : List ℕ → Answer → List ℕ → Type 0
FindsFrame waiting (Ok frame) left = front_of waiting ≡ Ok (frame, left)
FindsFrame waiting (Err breach) left = front_of waiting ≡ Err breach

pub record TakesFrame (child : ℕ) (old new : State) (found : Answer) : Type 0 where
  pub first : OfChild child old new (λ before after. (after.sent ≡ before.sent) × FindsFrame before.waiting found after.waiting)

-- ---- a frame that comes in pieces

-- the front of a piece was fed to a reader, and the last byte of it is answered so
pub record TakesFront (answer : Result (Option Frame) ReadFault) (piece old new : List ℕ) : Type 0 where
  pub taken : ℕ
  pub comes : ComesOf answer taken piece old new

-- what bytes that were fed to a reader lead to, and what it has then: they begin a frame, or whatever comes behind them a frame is found, or a bad byte
abbrev pub LeadsTo : Progress → List ℕ → List ℕ → Type 0
LeadsTo Begun bytes new = (found_in bytes ≡ founds.Begun) × (new ≡ bytes)
LeadsTo (Over found) bytes new = (rest : List ℕ) → FindsFrame (bytes ++ rest) found rest

-- more bytes of a frame that is begun
abbrev pub IsLonger : List ℕ → List ℕ → Progress → Type 0
IsLonger old new Begun = (found_in new ≡ founds.Begun) × (length old < length new)
IsLonger old new (Over found) = Unit {0}

-- the frame that begins with these bytes, or why none does, was found in those that wait behind them
pub record FindsBehind (child : ℕ) (bytes : List ℕ) (old new : State) (found : Answer) : Type 0 where
  pub behind : OfChild child old new (λ before after. (after.sent ≡ before.sent) × FindsFrame (bytes ++ before.waiting) found after.waiting)

-- behind these bytes of a frame more were taken, which begin it, or it was found
abbrev pub Reaches : ℕ → List ℕ → List ℕ → State → State → Progress → Type 0
Reaches child bytes bytes' old new Begun = TakesMore child old new bytes bytes'
Reaches child bytes bytes' old new (Over found) = FindsBehind child bytes old new found
