-- What is known of a call of `serve`.
use Rattle.std.specs.Prelude.{◌≡◌, ℕ, ◌+◌, ◌≤◌, List, [], ◌++◌, length, take, Result, Ok, Err, IfOk, OnOk, OnErr}
use Rattle.apt_outside.specs.Count.{Rose, Told}
use Rattle.apt_outside.specs.declared.stream.Source as source
use Rattle.apt_outside.specs.declared.stream.Sink as sink
use Rattle.frame_breaches.specs.declared.breach.Breach.{Breach}
use Rattle.frame_breaches.specs.declared.breach.Breach.TheVariants.{Ended, Bad, Wrong}
use Rattle.frame_reader.specs.Stages.{wanted_in}
use Rattle.local_procs.specs.declared.local.Local.{Local}
use Rattle.local_children.specs.Streams.{Open, Session, session_of, says, ending, after, Stand, open_session}
use Rattle.local_children.specs.Hearing.{Hears}
use Rattle.local_children.specs.declared.hearing.Stands.{Stands}
use Rattle.local_children.specs.declared.serving.ServeFault.{ServeFault}
use Rattle.local_children.specs.declared.serving.ServeFault.TheVariants as faults

-- ---- faults

-- the count of an object never falls, and its fault is answered only where it rose
pub record IsCaused {T : Type 0} (fault : ServeFault) (before now : ℕ) (result : Result T ServeFault) : Type 0 where
  pub later : before ≤ now
  pub failed : result ≡ Err fault → Rose before now

-- ---- bytes

-- the child goes on
abbrev pub IsOpen : Result Open Breach → Type 0
IsOpen stands = (talk : Open) × (stands ≡ Ok talk)

-- Behind the front, at which the session was open, no more was read than the frame wants that has begun there: so nothing is read behind
-- the frame that leaves the protocol.
pub record StaysWithin (local : Local) (read front : List ℕ) : Type 0 where
  pub piece : List ℕ
  pub split : read ≡ front ++ piece
  pub talk : Open
  pub opened : (session_of local front).stands ≡ Ok talk
  pub within : length piece ≤ wanted_in talk.1

-- a front of what is to be written, and at least this many bytes of it
abbrev pub WritesFront : ℕ → List ℕ → List ℕ → List ℕ → Type 0
WritesFront least says old new = (n : ℕ) × (least ≤ n) × (new ≡ old ++ take n says)

-- All that it says was written. After a fault of the sink or out of memory a front of that was, and in it each answer to what was read before
-- the last piece: so an answer is written before more is read than its frame.
abbrev pub Writes : List ℕ → List ℕ → List ℕ → List ℕ → Result Unit ServeFault → Type 0
Writes before says old new (Ok done) = new ≡ old ++ says
Writes before says old new (Err faults.SourceFault) = new ≡ old ++ says
Writes before says old new (Err (faults.Breach breach)) = new ≡ old ++ says
Writes before says old new (Err faults.SinkFault) = WritesFront (length before) says old new
Writes before says old new (Err faults.Memory) = WritesFront (length before) says old new

-- ---- answers

-- What is answered, by the session of the bytes that were read and by what is left: its ending where nothing is left, or its breach. After a
-- fault of the source it is open.
abbrev pub EndsBy : Session → Type 0 → Result Unit ServeFault → Type 0
EndsBy session over (Ok done) = (ending session ≡ Ok tt) × over
EndsBy session over (Err (faults.Breach (Ended got))) = (ending session ≡ Err (Ended got)) × over
EndsBy session over (Err (faults.Breach (Bad place kind))) = session.stands ≡ Err (Bad place kind)
EndsBy session over (Err (faults.Breach (Wrong tag))) = session.stands ≡ Err (Wrong tag)
EndsBy session over (Err faults.SourceFault) = IsOpen session.stands
EndsBy session over (Err faults.SinkFault) = Unit {0}
EndsBy session over (Err faults.Memory) = Unit {0}

-- the bytes that were read, where the source tells them, those of them before the last piece, and what was written, where the sink tells it
pub record Serves {R W : Type 0} (r : source.Ghosts R) (w : sink.Ghosts W) (local : Local) (input input' : R) (output output' : W) (result : Result Unit ServeFault) : Type 0 where
  pub read : List ℕ
  pub front : List ℕ
  pub taken : Told r.tells (r.left input ≡ read ++ r.left input')
  pub counted : r.supply input' + length read ≡ r.supply input
  pub within : StaysWithin local read front
  pub written : Told w.tells (Writes (says local front) (says local read) (w.written output) (w.written output') result)
  pub ends : EndsBy (session_of local read) (Told r.tells (r.left input' ≡ [])) result

-- ---- a piece

abbrev pub IsOfSource : {T : Type 0} → Result T ServeFault → Type 0
IsOfSource (Ok x) = Unit {0}
IsOfSource (Err faults.SourceFault) = Unit {0}
IsOfSource (Err faults.Memory) = Unit {0}
IsOfSource (Err faults.SinkFault) = ⊥
IsOfSource (Err (faults.Breach breach)) = ⊥

abbrev pub IsOfSink : {T : Type 0} → Result T ServeFault → Type 0
IsOfSink (Ok x) = Unit {0}
IsOfSink (Err faults.SinkFault) = Unit {0}
IsOfSink (Err faults.Memory) = Unit {0}
IsOfSink (Err faults.SourceFault) = ⊥
IsOfSink (Err (faults.Breach breach)) = ⊥

-- the first bytes that are left come into the room, none only at the end; after a fault all are left
pub record Reads {R : Type 0} (r : source.Ghosts R) (input input' : R) (room : List ℕ) (result : Result ℕ ServeFault) : Type 0 where
  pub fits : IfOk result (λ n. n ≤ length room)
  pub counted : IfOk result (λ n. r.supply input' + n ≡ r.supply input)
  pub taken : Told r.tells (IfOk result (λ n. r.left input ≡ take n room ++ r.left input'))
  pub ended : Told r.tells (IfOk result (λ n. n ≡ 0 → r.left input ≡ []))
  pub supplied : OnErr result (r.supply input' ≡ r.supply input)
  pub left : Told r.tells (OnErr result (r.left input' ≡ r.left input))
  pub of_source : IsOfSource result

-- these bytes are written, or after a fault a front of them
pub record Sends {W : Type 0} (w : sink.Ghosts W) (bytes : List ℕ) (output output' : W) (result : Result Unit ServeFault) : Type 0 where
  pub all : Told w.tells (OnOk result (w.written output' ≡ w.written output ++ bytes))
  pub some : Told w.tells (OnErr result ((n : ℕ) × (w.written output' ≡ w.written output ++ take n bytes)))
  pub of_sink : IsOfSink result

-- the session of a child behind these bytes, which has written nothing before them
abbrev pub behind : Stand → List ℕ → Session
behind child bytes = after child.0 (open_session [] child.1) bytes

-- what the child says to these bytes is written, or after a fault a front of it
pub record Speaks {W : Type 0} (w : sink.Ghosts W) (child : Stand) (bytes : List ℕ) (output output' : W) (result : Result Stands ServeFault) : Type 0 where
  pub hears : IfOk result (Hears child [] bytes (behind child bytes).written)
  pub all : Told w.tells (OnOk result (w.written output' ≡ w.written output ++ (behind child bytes).written))
  pub some : Told w.tells (OnErr result ((n : ℕ) × (w.written output' ≡ w.written output ++ take n (behind child bytes).written)))
  pub of_sink : IsOfSink result

-- how a call ends whose bytes end so
abbrev pub served_by : Result Unit Breach → Result Unit ServeFault
served_by (Ok done) = Ok done
served_by (Err breach) = Err (faults.Breach breach)

-- ---- a call that goes on

-- the bytes that were read so far, what was written, and where the child stands
pub record Goes {R W : Type 0} (r : source.Ghosts R) (w : sink.Ghosts W) (local : Local) (input input' : R) (output output' : W) (child : Stand) : Type 0 where
  pub read : List ℕ
  pub taken : Told r.tells (r.left input ≡ read ++ r.left input')
  pub counted : r.supply input' + length read ≡ r.supply input
  pub written : Told w.tells (w.written output' ≡ w.written output ++ says local read)
  pub same_local : child.0 ≡ local
  pub stands : (session_of local read).stands ≡ Ok child.1
