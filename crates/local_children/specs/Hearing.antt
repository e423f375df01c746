-- What a child in the code hears and says, in the words of its session.
use Rattle.std.specs.Prelude.{◌≡◌, ℕ, true, List, [], take, Result, Ok, Err}
use Rattle.wire_frames.specs.declared.frame.Frame.{Frame}
use Rattle.frame_breaches.specs.declared.breach.Breach.{Breach}
use Rattle.local_procs.specs.declared.local.Local.{Local}
use Rattle.local_procs.specs.declared.child.Child.{Child}
use Rattle.local_procs.specs.Says.{step}
use Rattle.local_procs.specs.Places.{stands_at}
use Rattle.local_children.specs.Streams.{Session, Stand, open_session, over, answered, after, has_begun}
use Rattle.local_children.specs.declared.conversation.Conversation.{Conversation}
use Rattle.local_children.specs.declared.hearing.Stands.{Stands}
use Rattle.local_children.specs.declared.hearing.Stands.TheVariants as stand
use Rattle.local_children.specs.declared.hearing.Heard.{Heard}

-- a child in the code
abbrev pub stand_of : Conversation → Stand
stand_of conversation = (conversation.child.local, (stands_at conversation.child, conversation.reader))

-- what was written, and where the session is
abbrev pub shown_session : List ℕ → Stands → Session
shown_session written (stand.Open child) = open_session written (stand_of child).1
shown_session written (stand.Over breach) = over written breach

-- it is of this processor
abbrev pub IsOf : Local → Stands → Type 0
IsOf local (stand.Open child) = child.child.local ≡ local
IsOf local (stand.Over breach) = Unit {0}

abbrev pub shown_child : List ℕ → Result Child Breach → Session
shown_child written (Ok child) = open_session written (stands_at child, [])
shown_child written (Err breach) = over written breach

abbrev pub IsChildOf : Local → Result Child Breach → Type 0
IsChildOf local (Ok child) = child.local ≡ local
IsChildOf local (Err breach) = Unit {0}

-- a frame is answered behind what was written
abbrev pub Answers : Child → Frame → List ℕ → List ℕ → Result Child Breach → Type 0
Answers child frame old new next = IsChildOf child.local next × (answered old (step child.local (stands_at child) frame) ≡ shown_child new next)

-- a frame has come to it
abbrev pub HasBegun : Result Child Breach → Type 0
HasBegun (Ok child) = true ≡ has_begun (stands_at child)
HasBegun (Err breach) = Unit {0}

-- this is where a child is that was answered so
abbrev pub StandsBy : Stands → Result Child Breach → Type 0
StandsBy (stand.Open conversation) (Ok child) = stand_of conversation ≡ (child.local, (stands_at child, []))
StandsBy (stand.Open conversation) (Err breach) = ⊥
StandsBy (stand.Over other) (Ok child) = ⊥
StandsBy (stand.Over other) (Err breach) = other ≡ breach

-- bytes are heard behind what was written
abbrev pub Hears : Stand → List ℕ → List ℕ → List ℕ → Stands → Type 0
Hears child old bytes new stands = IsOf child.0 stands × (after child.0 (open_session old child.1) bytes ≡ shown_session new stands)

-- of these bytes the front is heard
abbrev pub HearsFront : Stand → List ℕ → List ℕ → List ℕ → ℕ × Stands → Type 0
HearsFront child old bytes new front = Hears child old (take front.0 bytes) new front.1

-- what a child says to these bytes, and where its session is then
abbrev pub HearsAll : Stand → List ℕ → Heard → Type 0
HearsAll child bytes heard = Hears child [] bytes heard.said.items heard.stands
