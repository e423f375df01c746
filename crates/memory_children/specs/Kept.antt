-- What children in memory tell.
use Rattle.std.specs.Prelude.{◌≡◌, ℕ, ◌+◌, ◌<◌, ◌≤◌, ◌-◌, ◌^◌, nat_le, Bool, ◌||◌, is_none, List, [], ◌∷◌, ◌++◌, length, take, drop, map, flat_map, String, string_bytes, Vec, vec_len, vec_capacity, Option, None, Some, option_map, slice_get, All, IfSome}
use mathlib.Core.Path.{sym}
use Rattle.std.proofs.lemmas.List.{take-append-drop}
use Rattle.std.specs.declared.alloc.Global.{Global}
use Rattle.apt_outside.specs.Child.{Try, Child, Known, State, IsSound, sent_to}
use Rattle.apt_outside.specs.Plan.{Plan, fails_next}
use Rattle.local_procs.specs.declared.local.Local.{Local}
use Rattle.local_children.specs.Streams.{says, says_of, local_in, session_of}
use Rattle.local_children.specs.Hearing.{stand_of, IsOf, shown_session, HearsAll}
use Rattle.memory_children.specs.declared.call.Call.{Call}
use Rattle.local_children.specs.declared.hearing.Stands.{Stands}
use Rattle.local_children.specs.declared.hearing.Stands.TheVariants as stand
use Rattle.local_children.specs.declared.hearing.Heard.{Heard}

-- ---- calls

abbrev pub shown_call : Call → Try
shown_call call = (string_bytes call.name, map string_bytes call.command.items)

-- a call with this name and these words
abbrev pub IsCall : List ℕ → List (String Global) → Call → Type 0
IsCall name words call = shown_call call ≡ (name, map string_bytes words)

-- ---- a child

-- how a child was started, what it was sent, and how many bytes of what it says were taken
pub record Kept : Type 0 where
  pub name : List ℕ
  pub command : List (List ℕ)
  pub sent : List (List ℕ)
  pub taken : ℕ

-- all that it has said
abbrev pub said_of : Kept → List ℕ
said_of kept = says_of kept.name kept.command kept.sent

abbrev pub child_of : Kept → Child
child_of kept = record { name = kept.name; command = kept.command; sent = kept.sent; waiting = drop kept.taken (said_of kept) }

-- a child that was sent nothing
abbrev pub fresh : Try → Kept
fresh call = record { name = call.0; command = call.1; sent = []; taken = 0 }

abbrev pub shown_frames : List (Vec ℕ Global) → List (List ℕ)
shown_frames frames = map (λ f. f.items) frames

abbrev pub shown_child : Call → List (Vec ℕ Global) → ℕ → Kept
shown_child call sent taken = record { name = (shown_call call).0; command = (shown_call call).1; sent = shown_frames sent; taken = taken }

-- all bytes of these frames
abbrev pub joined : List (List ℕ) → List ℕ
joined frames = flat_map (λ frame. frame) frames

-- where the session of a child is behind these bytes
pub record StandsAt (local : Local) (bytes : List ℕ) (stands : Stands) : Type 0 where
  pub of_local : IsOf local stands
  pub session : session_of local bytes ≡ shown_session (says local bytes) stands

-- what a child in the code keeps: its processor, what it was sent and what it said one behind another, and where it is, if that is known
pub record Keeps (local : Local) (command : List (List ℕ)) (sent : List (List ℕ)) (bytes said : List ℕ) (taken : ℕ) (stands : Option Stands) : Type 0 where
  pub is_local : local_in command ≡ Some local
  pub is_joined : bytes ≡ joined sent
  pub is_said : said ≡ says local bytes
  pub within : taken ≤ length said
  pub stays : IfSome stands (StandsAt local bytes)

-- it was sent this frame, and what it then says more waits behind the rest
pub record Takes (frame : List ℕ) (old new : Kept) : Type 0 where
  pub same_name : new.name ≡ old.name
  pub same_command : new.command ≡ old.command
  pub sent : new.sent ≡ old.sent ++ frame ∷ []
  pub taken : new.taken ≡ old.taken
  pub waits : (more : List ℕ) × (said_of new ≡ said_of old ++ more) × (drop new.taken (said_of new) ≡ drop old.taken (said_of old) ++ more)

-- the first of the bytes that wait were given
pub record Gives (room : List ℕ) (n : ℕ) (old new : Kept) : Type 0 where
  pub rest : new ≡ record { name = old.name; command = old.command; sent = old.sent; taken = new.taken }
  pub fits : n ≤ length room
  pub given : drop old.taken (said_of old) ≡ take n room ++ drop new.taken (said_of old)
  pub ended : take n room ≡ [] → drop old.taken (said_of old) ≡ []

-- ---- children

abbrev pub known_of : List Kept → Known
known_of started k = option_map child_of (slice_get started k)

-- all bytes that a child was sent
abbrev pub sent_bytes : List Kept → ℕ → Option (List ℕ)
sent_bytes started k = option_map sent_to (known_of started k)

-- local children at a moment
abbrev pub state_of : List Kept → List ℕ → List Call → State
state_of started live tried = record {
  starts = length started;
  live = live;
  says = says_of;
  tried = map shown_call tried;
  known = known_of started;
}

-- a start is refused where it is planned to fail, or its command is not local, or 4,294,967,295 succeeded
abbrev pub refuses_start : Plan → ℕ → Try → Bool
refuses_start plan starts call = fails_next plan || (nat_le (2 ^ 32 - 1) starts || is_none (local_in call.1))

-- the children that live were started
abbrev pub LiveStarted : List ℕ → List Kept → Type 0
LiveStarted live started = All (λ k. k < length started) live

-- what waits is the end of what was said
pub sound_known : (o : Option Kept) → IfSome (option_map child_of o) (IsSound says_of)
sound_known None = tt
sound_known (Some kept) = (take kept.taken (said_of kept), sym (take-append-drop kept.taken (said_of kept)))

-- ---- in the code

-- these bytes more need no memory
abbrev pub HasRoom : Vec ℕ Global → List ℕ → Type 0
HasRoom bytes more = vec_len bytes + length more ≤ vec_capacity bytes

-- what is said to a frame where a session is, and where it is then
abbrev pub HearsBehind : Stands → List ℕ → Heard → Type 0
HearsBehind (stand.Open child) frame heard = HearsAll (stand_of child) frame heard
HearsBehind (stand.Over breach) frame heard = (heard.said.items ≡ []) × (heard.stands ≡ stand.Over breach)

-- what is said to a frame behind these bytes, and where the session is then
pub record HearsMore (local : Local) (bytes frame : List ℕ) (heard : Heard) : Type 0 where
  pub of_local : IsOf local heard.stands
  pub session : session_of local (bytes ++ frame) ≡ shown_session (says local bytes ++ heard.said.items) heard.stands

-- this child was put behind others
abbrev pub IsPut : Option Kept → List Kept → List Kept → Type 0
IsPut begun old new = IfSome begun (λ child. new ≡ old ++ child ∷ [])

-- the command of a call is not local
abbrev pub is_foreign : List (String Global) → Bool
is_foreign words = is_none (local_in (map string_bytes words))

-- the child that a call begins was sent nothing
abbrev pub IsFresh : List ℕ → List (String Global) → Option Kept → Type 0
IsFresh name words begun = IfSome begun (λ child. child ≡ fresh (name, map string_bytes words))

-- the starts that are to fail, and how many there were
abbrev pub plan_of : Vec ℕ Global → ℕ → Plan
plan_of failing calls = record { numbers = failing.items; calls = calls }

-- a start that begins this child is refused
abbrev pub refuses_begun : Vec ℕ Global → ℕ → List Kept → Option Kept → Bool
refuses_begun failing calls started begun = fails_next (plan_of failing calls) || (nat_le (2 ^ 32 - 1) (length started) || is_none begun)
