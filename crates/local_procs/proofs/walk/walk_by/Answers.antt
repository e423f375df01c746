use Rattle.std.proofs.Common.{◌≡◌, drop, IfOk, sym, ap, ◌∙◌, subst}
use Rattle.local_procs.specs.Walks.{plan_of_walk}
use Rattle.local_procs.specs.Plans.{each_of}
use Rattle.local_procs.specs.Stages.{plan_by, go_of, plan_for}
use Rattle.local_procs.proofs.Sending.{sent_before, then_sent}
use Rattle.local_procs.proofs.walk.walk_by.Goals as goal

pub returns-in-Some : goal.returns-in-Some
returns-in-Some c =
    ap (λ p. sent_before p (each_of (plan_for c.args.local) (drop c.args.walk.next c.args.walk.roots)))
    (ap (plan_by (go_of c.args.walk.root)) (sym c.in-Some.is) ∙ c.in_ok-frame.ensures)
    ∙ sym (then_sent (go_of c.args.walk.root c.args.walk.stage c.args.reply.now) (each_of (plan_for c.args.local) (drop c.args.walk.next c.args.walk.roots)))

pub returns-in-None : goal.returns-in-None
returns-in-None c =
    subst (λ p. IfOk c.walk_on.result (λ after. plan_of_walk c.args.local after ≡ p))
    (ap (λ p. sent_before p (each_of (plan_for c.args.local) (drop c.args.walk.next c.args.walk.roots)))
    (ap (plan_by (go_of c.args.walk.root)) (sym c.in-None.is) ∙ c.in_ok-frame.ensures)
    ∙ sym (then_sent (go_of c.args.walk.root c.args.walk.stage c.args.reply.now) (each_of (plan_for c.args.local) (drop c.args.walk.next c.args.walk.roots))))
    c.walk_on.ensures
