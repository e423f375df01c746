-- What a build ends in, and a call of the sink.
use Rattle.std.specs.Prelude.{◌≡◌, false, Result, Ok, Err}
use Rattle.apt_outside.specs.declared.fault.Fault.{Fault}
use Rattle.apt_outside.specs.declared.fault.Fault.TheVariants as outside
use Rattle.project_units.specs.Refusals.{Sink}
use Rattle.project_reading.specs.declared.status.Status.{Status}
use Rattle.project_reading.specs.Verdicts.{Verdict, Done, Errors, Refused, Failed, Input, Memory, verdict, is_children}
use Rattle.apt_host.specs.declared.build.Ending.{Ending}
use Rattle.apt_host.specs.declared.build.Ending.TheVariants as endings

-- what a call of the sink ends in
abbrev pub sink_verdict : Fault → Verdict
sink_verdict outside.Failed = Failed Sink
sink_verdict outside.Memory = Memory

-- how a build ends
abbrev pub ending : Ending → Verdict
ending endings.Published = Done
ending (endings.Errors count) = Errors count

abbrev pub closed : Result Ending Status → Verdict
closed (Ok end) = ending end
closed (Err status) = verdict status

-- what may come of a build once its run is finished
abbrev pub IsConcluded : Verdict → Type 0
IsConcluded Done = Unit {0}
IsConcluded (Errors count) = Unit {0}
IsConcluded (Refused refusal) = ⊥
IsConcluded (Failed object) = is_children object ≡ false
IsConcluded (Input fault) = ⊥
IsConcluded Memory = Unit {0}
