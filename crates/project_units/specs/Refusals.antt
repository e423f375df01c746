-- Why a call of the host ends before its work is done. Each refusal stands here once, with what its line names.
use Rattle.std.specs.Prelude.{◌≡◌, ◌⊎◌, ℕ, Bool, true, false, List, Option, None, Some, IfSome, Contains}
use Rattle.apt_base.specs.declared.kinds.Claim.{Claim}
use Rattle.apt_base.specs.declared.kinds.What.{What}
use Rattle.frame_breaches.specs.declared.breach.Breach.{Breach}
use Rattle.project_units.specs.Limits.{limit_of}

-- where a file of the configuration is off its form
pub data Place : Type 0 where
  -- it is no JSON object
  Json : Place
  -- an item of `apt.json`, as `/level`
  Item : (item : List ℕ) → Place
  -- a line, counted from 1
  Line : (line : ℕ) → Place

pub data Refusal : Type 0 where
  -- the first word that no command has there, by its position
  BadWords : (at : ℕ) → Refusal
  -- a file of the configuration is off its form, first at this place
  BadConfig : (path : List ℕ) (place : Place) → Refusal
  -- `apt.json` has no row for this processor, the first such that is named
  UnknownProcessor : (name : List ℕ) → Refusal
  -- a stub has no reading: the least path of such a one, and the place of its first fault
  BadStub : (path : List ℕ) (place : ℕ) → Refusal
  -- so has a source
  BadSource : (path : List ℕ) (place : ℕ) → Refusal
  -- two places of the project give this name: the path of the file that gave it first, stubs before sources, and that of the one that gave it again
  DuplicateType : (name first second : List ℕ) → Refusal
  -- a created source has no reading: its path in the output, and the place of its first fault
  BadGenerated : (path : List ℕ) (place : ℕ) → Refusal
  -- a child's bytes leave the protocol, at the first place where they do
  LeavesProtocol : (processor : List ℕ) (breach : Breach) → Refusal
  -- a child asked once more than it may in one round
  TooManyQuestions : (processor : List ℕ) (most : ℕ) → Refusal
  -- a processor declared that it claims always, or never, and said the other thing
  ClaimBroken : (processor : List ℕ) (declared : Claim) (said : Bool) → Refusal
  -- a created source gives a type that is there
  GeneratedDuplicate : (name : List ℕ) → Refusal
  -- round 64 would not be the last
  TooManyRounds : Refusal
  -- what is counted passes its limit
  TooLarge : (what : What) (limit : ℕ) → Refusal

-- past this limit
abbrev pub past : What → Refusal
past what = TooLarge what (limit_of what)

-- the processor of the run that a refusal names, if it names one
abbrev pub processor_of : Refusal → Option (List ℕ)
processor_of (LeavesProtocol processor breach) = Some processor
processor_of (TooManyQuestions processor most) = Some processor
processor_of (ClaimBroken processor declared said) = Some processor
processor_of other = None

-- what stands outside the host and counts its faults
pub data Object : Type 0 where
  Tree : Object
  Sink : Object
  -- the children, called for the processor of this name
  Children : (processor : List ℕ) → Object

-- why a call ended early
pub data Stop : Type 0 where
  Refused : (refusal : Refusal) → Stop
  -- the object failed, and its count of faults rose
  Failed : (object : Object) → Stop
  Memory : Stop

-- A refusal comes exactly where it is due. A fault outside and out of memory may come at any point.
abbrev pub is_refusal : Stop → Bool
is_refusal (Refused refusal) = true
is_refusal (Failed object) = false
is_refusal Memory = false

abbrev pub is_failure : Stop → Bool
is_failure (Refused refusal) = false
is_failure (Failed object) = true
is_failure Memory = false

-- a stop that may come before round 1, at the start and the first answer of a processor
abbrev pub is_of_hello : Stop → Bool
is_of_hello (Refused (LeavesProtocol processor breach)) = true
is_of_hello (Refused other) = false
is_of_hello (Failed object) = true
is_of_hello Memory = true

-- the processor that a stop names, if it names one
abbrev pub named_by : Stop → Option (List ℕ)
named_by (Refused refusal) = processor_of refusal
named_by (Failed (Children processor)) = Some processor
named_by other = None

-- The processor whose child is exempt from what is said of the frames that children were sent: the one that a fault of the children names. What became of
-- a frame whose sending failed, the children do not say.
abbrev pub exempt_by : Stop → Option (List ℕ)
exempt_by (Failed (Children processor)) = Some processor
exempt_by other = None

-- where a stop names a processor, it names this one
abbrev pub Names : List ℕ → Stop → Type 0
Names processor stop = IfSome (named_by stop) (λ name. name ≡ processor)

-- where it names one, that is among these
abbrev pub NamesAmong : List (List ℕ) → Stop → Type 0
NamesAmong processors stop = IfSome (named_by stop) (Contains processors)

-- this stop, or out of memory in its place
abbrev pub OrMemory : Stop → Stop → Type 0
OrMemory expected stop = (stop ≡ expected) ⊎ (stop ≡ Memory)
