-- What a call inside ends in.
use Rattle.std.specs.Prelude.{◌≡◌, true, Result, Ok, Err, Bool}
use Rattle.tree_store.specs.declared.fault.StoreFault.{StoreFault}
use Rattle.tree_store.specs.declared.fault.StoreFault.TheVariants as store
use Rattle.project_units.specs.Refusals as refusal
use Rattle.project_units.specs.Refusals.{Object}
use Rattle.project_reading.specs.declared.status.Status.{Status}
use Rattle.project_reading.specs.declared.status.Status.TheVariants as code
use Rattle.project_reading.specs.Verdicts.{Verdict, Done, Errors, Refused, Failed, Input, Memory, verdict}

-- a fault of the store
abbrev pub of_store : StoreFault → Status
of_store store.Failed = code.TreeFault
of_store store.Memory = code.Memory

abbrev pub ended : {T : Type 0} → Result T Status → Verdict
ended (Ok value) = Done
ended (Err status) = verdict status

-- a refusal of a build, whose words were read
abbrev pub IsOfBuild : refusal.Refusal → Type 0
IsOfBuild (refusal.BadWords at) = ⊥
IsOfBuild other = Unit {0}

-- a part of a build that did not do its work: it is refused, such an object failed, or memory was wanted
abbrev pub EndsEarly : (Object → Bool) → Verdict → Type 0
EndsEarly is Done = ⊥
EndsEarly is (Errors count) = ⊥
EndsEarly is (Refused refusal) = IsOfBuild refusal
EndsEarly is (Failed object) = is object ≡ true
EndsEarly is (Input fault) = ⊥
EndsEarly is Memory = Unit {0}
