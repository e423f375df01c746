use Rattle.std.proofs.Common.{◌≡◌, ℕ, suc}
use Rattle.std.specs.Prelude.{Some, None}
use Rattle.local_procs.specs.Plans.{sendable}
use Rattle.local_procs.specs.Stages.{Step, plan_by, go_of, rank_of}
use Rattle.local_procs.specs.declared.stage.Stage.{Stage}
use Rattle.local_procs.proofs.stage.settled.Given as goal

-- what is sent of the rest is what is sent
abbrev pub invariant-loop-step : goal.invariant-loop-step
invariant-loop-step l = sendable (plan_by (go_of l.root) l.step) ≡ sendable (plan_by (go_of l.root) l.fn.step)

abbrev pub left : Step Stage → ℕ
left None = 0
left (Some x) = suc (rank_of x.1)

abbrev pub decreases-loop-step : goal.decreases-loop-step
decreases-loop-step l = left l.step
