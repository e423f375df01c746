-- What `serve` answers, reads and writes: it is a child of the host at its source and its sink, as `local_children` has it.
use Rattle.std.specs.Prelude.{◌≡◌, Result, Ok, Err}
use Rattle.apt_outside.specs.declared.stream.Source as source
use Rattle.apt_outside.specs.declared.stream.Sink as sink
use Rattle.local_procs.specs.declared.local.Local.{Local}
use Rattle.local_children.specs.Serving as child
use Rattle.local_children.specs.declared.serving.ServeFault.{ServeFault}
use Rattle.local_children.specs.declared.serving.ServeFault.TheVariants as faults
use Rattle.project_units.specs.Refusals.{Sink}
use Rattle.project_reading.specs.Verdicts.{SourceFails, HostLeaves, Verdict, Done, Failed, Input, Memory}

-- how a child ends
abbrev pub served : Result Unit ServeFault → Verdict
served (Ok done) = Done
served (Err faults.SourceFault) = Input SourceFails
served (Err faults.SinkFault) = Failed Sink
served (Err (faults.Breach breach)) = Input (HostLeaves breach)
served (Err faults.Memory) = Memory

-- It read the first bytes that were left of the source and wrote what its processor says to them, and its answer is how their session ends: `child.Serves` has each of that.
pub record ServesFor {R W : Type 0} (r : source.Ghosts R) (w : sink.Ghosts W) (local : Local) (input input' : R) (output output' : W) (v : Verdict) : Type 0 where
  pub end : Result Unit ServeFault
  pub answers : v ≡ served end
  pub serves : child.Serves r w local input input' output output' end
