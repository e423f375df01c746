use Rattle.std.proofs.Common.{Some, sym, ap, ◌∙◌}
use Rattle.local_procs.specs.Stages.{plan_by, go_of, plan_for}
use Rattle.local_procs.proofs.Walking.{all_done, one_begun}
use Rattle.local_procs.proofs.walk.walk_on.Goals as goal

pub returns-in-None : goal.returns-in-None
returns-in-None c = all_done (plan_for c.args.local) c.loop-root.roots c.loop-root.next (rw c.in-None.is at c.get.ensures.value) ∙ c.loop-root.invariant

pub returns-in-Some-2 : goal.returns-in-Some-2
returns-in-Some-2 c =
    one_begun (plan_for c.args.local) c.loop-root.roots c.loop-root.next c.in_ok-root-in-Some.root _
    (ap Some c.in_ok-root-in-Some.ensures ∙ c.in-Some.ensures.value)
    (ap (plan_by (go_of c.in_ok-root-in-Some.root)) (sym c.in-Some-2.is) ∙ c.in_ok-frame.ensures)
    ∙ c.loop-root.invariant

pub loop-root-preserved : goal.loop-root-preserved
loop-root-preserved c =
    one_begun (plan_for c.args.local) c.loop-root.roots c.loop-root.next c.in_ok-root-in-Some.root _
    (ap Some c.in_ok-root-in-Some.ensures ∙ c.in-Some.ensures.value)
    (ap (plan_by (go_of c.in_ok-root-in-Some.root)) (sym c.in-None-2.is) ∙ c.in_ok-frame.ensures)
    ∙ c.loop-root.invariant
