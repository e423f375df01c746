-- How a call ends, as a value: its number, and which ends may come at any point.
use Rattle.std.specs.Prelude.{◌≡◌, ◌⊎◌, ℕ, ◌≤◌, Bool, true, false, List, Option, None, Some}
use Rattle.apt_outside.specs.Count.{Rose}
use Rattle.frame_breaches.specs.declared.breach.Breach.{Breach}
use Rattle.frame_breaches.specs.declared.breach.Breach.TheVariants.{Ended, Bad, Wrong}
use Rattle.project_units.specs.Refusals as stop
use Rattle.project_units.specs.Refusals.{Refusal, BadWords, BadConfig, UnknownProcessor, BadStub, BadSource, DuplicateType, BadGenerated, LeavesProtocol, TooManyQuestions, ClaimBroken, GeneratedDuplicate, TooManyRounds, TooLarge, Place, Object, Tree, Sink, Children, Stop, processor_of}
use Rattle.project_units.specs.Faults.{stop_of}
use Rattle.project_reading.specs.declared.status.Place as status
use Rattle.project_reading.specs.declared.status.Place.TheVariants as code_place
use Rattle.project_reading.specs.declared.status.Status.{Status}
use Rattle.project_reading.specs.declared.status.Status.TheVariants as code

-- why the input was not taken to its end
pub data InputFault : Type 0 where
  -- the source failed
  SourceFails : InputFault
  -- the bytes of the host of a processor leave the protocol, at the first place where they do
  HostLeaves : (breach : Breach) → InputFault

pub data Verdict : Type 0 where
  Done : Verdict
  -- this many errors were printed
  Errors : (count : ℕ) → Verdict
  Refused : (refusal : Refusal) → Verdict
  -- the object failed
  Failed : (object : Object) → Verdict
  -- so did the input, which `serve` alone reads
  Input : (fault : InputFault) → Verdict
  -- out of memory
  Memory : Verdict

-- the place of a fault in a file of the configuration
abbrev pub shown_place : status.Place → Place
shown_place code_place.Json = stop.Json
shown_place (code_place.Item item) = stop.Item item
shown_place (code_place.Line line) = stop.Line line

-- a run that ended early
abbrev pub stopped : Stop → Verdict
stopped (stop.Refused refusal) = Refused refusal
stopped (stop.Failed object) = Failed object
stopped stop.Memory = Memory

abbrev pub verdict : Status → Verdict
verdict code.Done = Done
verdict (code.Errors count) = Errors count
verdict (code.BadWords at) = Refused (BadWords at)
verdict (code.BadConfig path place) = Refused (BadConfig path (shown_place place))
verdict (code.UnknownProcessor name) = Refused (UnknownProcessor name)
verdict (code.BadStub path place) = Refused (BadStub path place)
verdict (code.BadSource path place) = Refused (BadSource path place)
verdict (code.DuplicateType name first second) = Refused (DuplicateType name first second)
verdict (code.Refused refusal) = stopped (stop_of refusal)
verdict code.TreeFault = Failed Tree
verdict code.SinkFault = Failed Sink
verdict code.SourceFault = Input SourceFails
verdict (code.HostBreach breach) = Input (HostLeaves breach)
verdict code.Memory = Memory

-- ---- its kinds

-- a fault outside or out of memory, which may come at any point of a build; a build has no input
abbrev pub is_free : Verdict → Bool
is_free Done = false
is_free (Errors count) = false
is_free (Refused refusal) = false
is_free (Failed object) = true
is_free (Input fault) = false
is_free Memory = true

-- this is the verdict, unless it is a free one
abbrev pub OrFree : Verdict → Verdict → Type 0
OrFree expected v = is_free v ≡ false → v ≡ expected

-- this verdict, or out of memory in its place
abbrev pub OrMemory : Verdict → Verdict → Type 0
OrMemory expected v = (v ≡ expected) ⊎ (v ≡ Memory)

-- the call ended with a report
abbrev pub is_finished : Verdict → Bool
is_finished Done = true
is_finished (Errors count) = true
is_finished (Refused refusal) = false
is_finished (Failed object) = false
is_finished (Input fault) = false
is_finished Memory = false

-- ---- faults outside

abbrev pub is_tree : Object → Bool
is_tree Tree = true
is_tree Sink = false
is_tree (Children processor) = false

abbrev pub is_sink : Object → Bool
is_sink Tree = false
is_sink Sink = true
is_sink (Children processor) = false

abbrev pub is_children : Object → Bool
is_children Tree = false
is_children Sink = false
is_children (Children processor) = true

-- the run of a build was finished: it ended with a report, or the output failed, to which a build writes behind its run alone
abbrev pub has_run : Verdict → Bool
has_run Done = true
has_run (Errors count) = true
has_run (Refused refusal) = false
has_run (Failed object) = is_sink object
has_run (Input fault) = false
has_run Memory = false

-- what a build writes to
abbrev pub is_output : Object → Bool
is_output Tree = true
is_output Sink = true
is_output (Children processor) = false

-- whether such an object failed
abbrev pub fails : (Object → Bool) → Verdict → Bool
fails is (Failed object) = is object
fails is other = false

-- the processor that a verdict names as one that was read, if it names one
abbrev pub named_in : Verdict → Option (List ℕ)
named_in (Refused refusal) = processor_of refusal
named_in (Failed (Children processor)) = Some processor
named_in other = None

-- the count of faults of such an object never falls, and its fault comes only where it rose
pub record HasCause (is : Object → Bool) (v : Verdict) (before now : ℕ) : Type 0 where
  pub later : before ≤ now
  pub rose : fails is v ≡ true → Rose before now

-- the input failed, or its bytes leave the protocol
abbrev pub is_input : Verdict → Bool
is_input (Input fault) = true
is_input other = false

-- the source failed
abbrev pub fails_source : Verdict → Bool
fails_source (Input SourceFails) = true
fails_source other = false

-- the same of the count of the source
pub record HasSourceCause (v : Verdict) (before now : ℕ) : Type 0 where
  pub later : before ≤ now
  pub rose : fails_source v ≡ true → Rose before now

-- ---- its number

-- of bytes that leave the protocol, given the number of those that end too early
abbrev pub number_of_breach : ℕ → Breach → ℕ
number_of_breach ended (Ended got) = ended
number_of_breach ended (Bad place kind) = 9
number_of_breach ended (Wrong tag) = 10

abbrev pub number_of : Refusal → ℕ
number_of (BadWords at) = 2
number_of (LeavesProtocol processor breach) = number_of_breach 8 breach
number_of (TooManyQuestions processor most) = 11
number_of (ClaimBroken processor declared said) = 12
number_of (BadConfig path place) = 13
number_of (BadStub path place) = 14
number_of (BadSource path place) = 15
number_of (DuplicateType name first second) = 16
number_of (UnknownProcessor name) = 17
number_of (BadGenerated path place) = 18
number_of (GeneratedDuplicate name) = 19
number_of TooManyRounds = 20
number_of (TooLarge what limit) = 21

abbrev pub number_of_failure : Object → ℕ
number_of_failure Tree = 4
number_of_failure Sink = 5
number_of_failure (Children processor) = 7

abbrev pub number_of_input : InputFault → ℕ
number_of_input SourceFails = 6
number_of_input (HostLeaves breach) = number_of_breach 24 breach

-- the exit status
abbrev pub code_of : Verdict → ℕ
code_of Done = 0
code_of (Errors count) = 1
code_of (Refused refusal) = number_of refusal
code_of Memory = 3
code_of (Failed object) = number_of_failure object
code_of (Input fault) = number_of_input fault
