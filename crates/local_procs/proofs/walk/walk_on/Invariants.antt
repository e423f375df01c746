use Rattle.std.proofs.Common.{◌≡◌, ◌-◌, length, drop}
use Rattle.local_procs.specs.Plans.{sendable, each_of}
use Rattle.local_procs.specs.Stages.{plan_for}
use Rattle.local_procs.proofs.walk.walk_on.Given as goal

-- the rest of the roots is what is left
abbrev pub invariant-loop-root : goal.invariant-loop-root
invariant-loop-root l = sendable (each_of (plan_for l.local) (drop l.next l.roots)) ≡ sendable (each_of (plan_for l.local) (drop l.fn.next l.fn.roots))

abbrev pub decreases-loop-root : goal.decreases-loop-root
decreases-loop-root l = length l.roots - l.next
