-- What each of the processors keeps to, whatever its host replies: its claim, how often it asks, and the origins of what it
-- gives.
use Rattle.std.specs.Prelude.{◌≡◌, ◌≢◌, ℕ, zero, suc, Bool, true, [], ◌∷◌, Some}
use Rattle.apt_base.specs.Names.{NameSet}
use Rattle.apt_base.specs.declared.element.ElementRef.{ElementRef}
use Rattle.apt_base.specs.declared.kinds.Claim.TheVariants.{Varies}
use Rattle.wire_frames.specs.declared.frame.Creation.TheVariants as creation
use Rattle.wire_frames.specs.declared.frame.Frame.{Frame}
use Rattle.wire_frames.specs.declared.frame.Frame.TheVariants as frame
use Rattle.wire_frames.specs.declared.reply.Reply.{Reply}
use Rattle.local_procs.specs.declared.local.Local.{Local}
use Rattle.local_procs.specs.declared.local.Local.TheVariants.{Builder, Checker, Chain, Registry}
use Rattle.local_procs.specs.Plans.{Plan, Ends, Sends}
use Rattle.local_procs.specs.Registry.{registers}
use Rattle.local_procs.specs.Stages.{plan_for}
use Rattle.local_procs.specs.Says.{claim_of}

-- a file or a message of this element alone; a question gives nothing, and no other frame stands in a plan
abbrev pub IsGivenFor : ElementRef → Frame → Type 0
IsGivenFor root (frame.Create (creation.Source name content origins)) = origins ≡ root ∷ []
IsGivenFor root (frame.Message message) = message.element ≡ Some root
IsGivenFor root (frame.Ask question) = Unit {0}
IsGivenFor root other = ⊥

-- all that a plan gives, whatever is replied
unfoldable pub GivesFor : ElementRef → Plan → Type 0
GivesFor root (Ends kept) = Unit {0}
GivesFor root (Sends sent go) = IsGivenFor root sent × ((answer : Reply) → GivesFor root (go answer))

-- it sends at most this many frames, whatever is replied
unfoldable pub IsShort : ℕ → Plan → Type 0
IsShort n (Ends kept) = Unit {0}
IsShort zero (Sends sent go) = ⊥
IsShort (suc n) (Sends sent go) = (answer : Reply) → IsShort n (go answer)

-- the most frames for a root
abbrev pub most_frames : Local → ℕ
most_frames Builder = 3005
most_frames Checker = 4
most_frames Chain = 4
most_frames Registry = 0

-- of one that goes from root to root
pub record KeepsKind (local : Local) : Type 0 where
  pub constant : claim_of local ≢ Varies
  pub attributed : (root : ElementRef) → GivesFor root (plan_for local root)
  pub short : (root : ElementRef) → IsShort (most_frames local) (plan_for local root)

-- a question; or, in the last round alone, a resource without origins
abbrev pub IsGathered : Bool → Frame → Type 0
IsGathered over (frame.Create (creation.Resource location «package» relative content origins)) = over ≡ true × origins ≡ []
IsGathered over (frame.Ask question) = Unit {0}
IsGathered over other = ⊥

-- all that a plan gives in a round, whatever is replied
unfoldable pub Gathers : Bool → Plan → Type 0
Gathers over (Ends kept) = Unit {0}
Gathers over (Sends sent go) = IsGathered over sent × ((answer : Reply) → Gathers over (go answer))

-- of registry, in each round: with its annotation offered or not, and whatever it remembers
pub record KeepsGathering : Type 0 where
  pub constant : claim_of Registry ≢ Varies
  pub gathered : (there over : Bool) (kept : NameSet) → Gathers over (registers there over kept)
  pub short : (there over : Bool) (kept : NameSet) → IsShort 2 (registers there over kept)

abbrev pub Keeps : Local → Type 0
Keeps Registry = KeepsGathering
Keeps local = KeepsKind local

abbrev pub AllKeepKinds : Type 0
AllKeepKinds = (local : Local) → Keeps local
