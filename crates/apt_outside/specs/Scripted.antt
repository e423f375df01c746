-- What scripted children say.
use Rattle.std.specs.Prelude.{◌≡◌, ℕ, ◌+◌, ◌<◌, ◌≤◌, ◌-◌, ◌^◌, nat_le, Bool, ◌||◌, is_none, List, [], ◌∷◌, ◌++◌, length, take, drop, map, flat_map, String, string_bytes, Vec, vec_len, vec_capacity, bytes_eq, if◌then◌else◌, Option, None, Some, option_map, slice_get, Contains, IfSome}
use mathlib.Core.Path.{sym}
use Rattle.std.proofs.lemmas.List.{take-append-drop}
use Rattle.std.specs.declared.alloc.Global.{Global}
use Rattle.apt_outside.specs.Child.{Says, Try, Child, Known, State, IsSound, sent_to}
use Rattle.apt_outside.specs.declared.script.Script.{Script}
use Rattle.apt_outside.specs.declared.script.Call.{Call}
use Rattle.apt_outside.specs.declared.script.Started.{Started}

-- the first script of a name
abbrev pub script_of : List Script → List ℕ → Option Script
script_of [] name = None
script_of (s ∷ ss) name = if bytes_eq (string_bytes s.name) name then Some s else script_of ss name

-- its first n answers, joined
abbrev pub answers_of : Option Script → ℕ → List ℕ
answers_of None n = []
answers_of (Some s) n = flat_map (λ a. a.items) (take n s.answers.items)

-- its answer at a place, and none past its last
abbrev pub answer_of : Option Script → ℕ → List ℕ
answer_of None at = []
answer_of (Some s) at = flat_map (λ a. a.items) (take 1 (drop at s.answers.items))

-- one answer waits before the first frame, and one more after each
abbrev pub script_says : List Script → Says
script_says scripts name command frames = answers_of (script_of scripts name) (length frames + 1)

abbrev pub shown_call : Call → Try
shown_call call = (string_bytes call.name, map string_bytes call.command.items)

-- a call with this name and these words
abbrev pub IsCall : List ℕ → List (String Global) → Call → Type 0
IsCall name words call = shown_call call ≡ (name, map string_bytes words)

abbrev pub shown_frames : List (Vec ℕ Global) → List (List ℕ)
shown_frames frames = map (λ f. f.items) frames

abbrev pub frames_of : Started → List (List ℕ)
frames_of s = shown_frames s.sent.items

-- these bytes more need no memory
abbrev pub HasRoom : Vec ℕ Global → List ℕ → Type 0
HasRoom bytes more = vec_len bytes + length more ≤ vec_capacity bytes

-- all that a child has said
abbrev pub said_of : List Script → Started → List ℕ
said_of scripts s = script_says scripts (shown_call s.call).0 (shown_call s.call).1 (frames_of s)

abbrev pub child_of : List Script → Started → Child
child_of scripts s = record { name = (shown_call s.call).0; command = (shown_call s.call).1; sent = frames_of s; waiting = drop s.taken (said_of scripts s) }

abbrev pub known_of : List Script → List Started → Known
known_of scripts started k = option_map (child_of scripts) (slice_get started k)

-- all bytes that a child was sent
abbrev pub sent_bytes : List Script → List Started → ℕ → Option (List ℕ)
sent_bytes scripts started k = option_map sent_to (known_of scripts started k)

-- scripted children at a moment
abbrev pub state_of : List Script → List Started → List ℕ → List Call → State
state_of scripts started live tried = record {
  starts = length started;
  live = live;
  says = script_says scripts;
  tried = map shown_call tried;
  known = known_of scripts started;
}

-- these bytes were given of what a child said and did not give before, and this much is taken then
abbrev pub HasGiven : Started → ℕ → List ℕ → Type 0
HasGiven s taken bytes = drop s.taken s.said.items ≡ bytes ++ drop taken s.said.items

-- no child took more than it said
abbrev pub TakesSaid : List Script → List Started → Type 0
TakesSaid scripts started = (k : ℕ) (s : Started) → slice_get started k ≡ Some s → s.taken ≤ length (said_of scripts s)

-- a start without a script is refused, and one after 4,294,967,295 that succeeded
abbrev pub refuses_start : List Script → List Started → Try → Bool
refuses_start scripts started call = nat_le (2 ^ 32 - 1) (length started) || is_none (script_of scripts call.0)

-- what a child was sent, and what it said, stand joined
pub record IsJoined (scripts : List Script) (s : Started) : Type 0 where
  pub sent : s.joined.items ≡ flat_map (λ frame. frame) (frames_of s)
  pub said : s.said.items ≡ said_of scripts s

abbrev pub EachJoined : List Script → List Started → Type 0
EachJoined scripts started = (k : ℕ) (s : Started) → slice_get started k ≡ Some s → IsJoined scripts s

-- the children that live were started
abbrev pub LiveStarted : List ℕ → List Started → Type 0
LiveStarted live started = (k : ℕ) → Contains live k → k < length started

-- what waits is the end of what was said
pub sound_known : (scripts : List Script) (o : Option Started) → IfSome (option_map (child_of scripts) o) (IsSound (script_says scripts))
sound_known scripts None = tt
sound_known scripts (Some s) = (take s.taken (said_of scripts s), sym (take-append-drop s.taken (said_of scripts s)))
