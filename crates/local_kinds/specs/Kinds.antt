-- Kinds of processors (Gradle, incremental annotation processing): what an isolating one keeps in the talk in which each
-- creation whose elements are there is accepted, whatever it is.
use Rattle.std.specs.Prelude.{◌≡◌, ◌≢◌, ℕ, ◌==◌, Bool, true, ◌&&◌, not, List, ◌∷◌, length, filter, Some, IsSomeAnd}
use Rattle.std.specs.List.{list_any, list_all, AllByRecursion}
use Rattle.std.specs.Str.{bytes_eq}
use Rattle.apt_base.specs.declared.kinds.Claim.{Claim}
use Rattle.apt_base.specs.declared.kinds.Claim.TheVariants.{Varies}
use Rattle.round_env.specs.Presence.{names_present_on}
use Rattle.wire_frames.specs.declared.frame.Init.{Init}
use Rattle.apt_filer.specs.Origins.{Origin, file_origin, message_origin, is_unit}
use Rattle.child_session.specs.Talk.{Stream}
use Rattle.child_session.specs.Replies.{Shown, Exchange}
use Rattle.child_session.specs.Acts.{Act, files, messages}
use Rattle.child_session.specs.Sessions.{Limits, free_session, free_act_behind}
use Rattle.local_procs.specs.declared.local.Local.{Local}
use Rattle.local_procs.specs.declared.local.Local.TheVariants.{Registry}
use Rattle.local_procs.specs.Says.{claim_of}
use Rattle.local_children.specs.Streams.{local_in, says_of}
use Rattle.local_kinds.specs.Streams.{AnswersInTurn}
use Rattle.local_kinds.specs.Rounds.{IsInit, init_frame, IsRound, most_requests}

-- ---- claim and faults

-- Its claim is constant. Whatever rounds are shown, its first frame is a Hello with that claim, and each round ends as it
-- should: with a Done that agrees.
pub record IsFaultless (stream : Stream) (limits : Limits) (declared : Claim) : Type 0 where
  pub constant : declared ≢ Varies
  pub ends : (init : Init) (rounds : List Shown) → IsInit init → AllByRecursion IsRound rounds
      → IsSomeAnd (free_session stream limits (init_frame init) rounds) (λ begun. begun.claim ≡ declared)

-- ---- origins

-- the names that are offered on a root
abbrev pub names_on : Shown → List ℕ → List (List ℕ)
names_on shown unit = filter (λ name. list_any (bytes_eq name) (names_present_on shown.table unit)) shown.env.offered

-- the roots that carry an offered name
abbrev pub subjects : Shown → List (List ℕ)
subjects shown = filter (λ unit. not (length (names_on shown unit) == 0)) shown.env.roots

abbrev pub comes_from : List (List ℕ) → Origin → Bool
comes_from units origin = list_any (λ unit. is_unit unit origin) units

-- each file and each message has one of these units as its origin
unfoldable pub come_from : List (List ℕ) → List Exchange → Bool
come_from units exchanges =
    list_all (λ creation. comes_from units (file_origin creation)) (files exchanges)
    && list_all (λ message. comes_from units (message_origin message)) (messages exchanges)

-- what a round comes to, whatever was shown before it
abbrev pub InEachAct : Stream → Limits → (Shown → Act → Type 0) → Type 0
InEachAct stream limits P = (init : Init) (shown : Shown) (earlier : List Shown) (act : Act)
    → IsInit init → AllByRecursion IsRound (shown ∷ earlier)
    → free_act_behind stream limits (init_frame init) shown earlier ≡ Some act → P shown act

-- each file and each message of each round comes from a root of it that carries an offered name
abbrev pub AttributesAll : Stream → Limits → Type 0
AttributesAll stream limits = InEachAct stream limits (λ shown act. come_from (subjects shown) act.exchanges ≡ true)

-- ---- the processors

-- of one that goes from root to root
pub record KeepsKind (local : Local) (stream : Stream) : Type 0 where
  pub faultless : IsFaultless stream most_requests (claim_of local)
  pub attributed : AttributesAll stream most_requests

-- `registry` gathers, and its file comes from no root
abbrev pub Keeps : Local → Stream → Type 0
Keeps Registry stream = IsFaultless stream most_requests (claim_of Registry)
Keeps local stream = KeepsKind local stream

abbrev pub AllKeepKinds : Type 0
AllKeepKinds = (local : Local) (stream : Stream) → AnswersInTurn local stream → Keeps local stream

-- so does each child of a command that is local
abbrev pub ServedKeepKinds : Type 0
ServedKeepKinds = (name : List ℕ) (command : List (List ℕ)) (local : Local) → local_in command ≡ Some local
    → Keeps local (says_of name command)
