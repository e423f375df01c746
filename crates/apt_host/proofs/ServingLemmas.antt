-- A child of another host: how it ends, and what it reads and writes.
use Rattle.std.proofs.Common.{◌≡◌, ℕ, Bool, true, false, Result, Ok, Err, refl, sym, subst, arith}
use Rattle.std.proofs.lemmas.Bool.{false≢true}
use Rattle.apt_outside.specs.declared.stream.Source as source
use Rattle.apt_outside.specs.declared.stream.Sink as sink
use Rattle.local_procs.specs.declared.local.Local.{Local}
use Rattle.local_children.specs.declared.serving.ServeFault.{ServeFault}
use Rattle.local_children.specs.declared.serving.ServeFault.TheVariants as faults
use Rattle.local_children.specs.Serving as child
use Rattle.local_children.specs.Serving.{IsCaused}
use Rattle.project_units.specs.Refusals.{Object, Sink}
use Rattle.project_reading.specs.Verdicts.{Verdict, Done, Errors, Refused, Failed, Input, Memory, is_sink, is_input, HasCause, HasSourceCause}
use Rattle.apt_host.specs.Commands.{may_serve}
use Rattle.apt_host.specs.Serving.{served, ServesFor}

-- ---- its answer

pub served_own : (result : Result Unit ServeFault) → may_serve (served result) ≡ true
served_own (Ok done) = refl
served_own (Err faults.SourceFault) = refl
served_own (Err faults.SinkFault) = refl
served_own (Err (faults.Breach breach)) = refl
served_own (Err faults.Memory) = refl

-- ---- its causes

-- no object but the source and the sink fails
pub served_others : (is : Object → Bool) (result : Result Unit ServeFault) (count : ℕ) → is Sink ≡ false → HasCause is (served result) count count
served_others is (Ok done) count other = record { later = omega arith; rose = λ fails. absurd (false≢true fails) }
served_others is (Err faults.SourceFault) count other = record { later = omega arith; rose = λ fails. absurd (false≢true fails) }
served_others is (Err faults.SinkFault) count other = record { later = omega arith; rose = λ fails. absurd (let e : false ≡ true = subst (λ b. b ≡ true) other fails in false≢true e) }
served_others is (Err (faults.Breach breach)) count other = record { later = omega arith; rose = λ fails. absurd (false≢true fails) }
served_others is (Err faults.Memory) count other = record { later = omega arith; rose = λ fails. absurd (false≢true fails) }

pub served_source : (result : Result Unit ServeFault) (before now : ℕ) → IsCaused faults.SourceFault before now result → HasSourceCause (served result) before now
served_source (Ok done) before now cause = record { later = cause.later; rose = λ fails. absurd (false≢true fails) }
served_source (Err faults.SourceFault) before now cause = record { later = cause.later; rose = λ fails. cause.failed refl }
served_source (Err faults.SinkFault) before now cause = record { later = cause.later; rose = λ fails. absurd (false≢true fails) }
served_source (Err (faults.Breach breach)) before now cause = record { later = cause.later; rose = λ fails. absurd (false≢true fails) }
served_source (Err faults.Memory) before now cause = record { later = cause.later; rose = λ fails. absurd (false≢true fails) }

pub served_sink : (result : Result Unit ServeFault) (before now : ℕ) → IsCaused faults.SinkFault before now result → HasCause is_sink (served result) before now
served_sink (Ok done) before now cause = record { later = cause.later; rose = λ fails. absurd (false≢true fails) }
served_sink (Err faults.SourceFault) before now cause = record { later = cause.later; rose = λ fails. absurd (false≢true fails) }
served_sink (Err faults.SinkFault) before now cause = record { later = cause.later; rose = λ fails. cause.failed refl }
served_sink (Err (faults.Breach breach)) before now cause = record { later = cause.later; rose = λ fails. absurd (false≢true fails) }
served_sink (Err faults.Memory) before now cause = record { later = cause.later; rose = λ fails. absurd (false≢true fails) }

-- no other answer is one of the source
pub source_unread : (v : Verdict) (count : ℕ) → is_input v ≡ false → HasSourceCause v count count
source_unread Done count other = record { later = omega arith; rose = λ fails. absurd (false≢true fails) }
source_unread (Errors errors) count other = record { later = omega arith; rose = λ fails. absurd (false≢true fails) }
source_unread (Refused refusal) count other = record { later = omega arith; rose = λ fails. absurd (false≢true fails) }
source_unread (Failed object) count other = record { later = omega arith; rose = λ fails. absurd (false≢true fails) }
source_unread (Input fault) count other = absurd (false≢true (sym other))
source_unread Memory count other = record { later = omega arith; rose = λ fails. absurd (false≢true fails) }

-- ---- what it reads and writes

pub serves_as : {R W : Type 0} (r : source.Ghosts R) (w : sink.Ghosts W) (local : Local) (input input' : R) (output output' : W) (result : Result Unit ServeFault) (v : Verdict)
    → v ≡ served result → child.Serves r w local input input' output output' result → ServesFor r w local input input' output output' v
serves_as r w local input input' output output' result v is serves = record { end = result; answers = is; serves = serves }
