use Rattle.std.proofs.Common.{sym, ap, ◌∙◌}
use Rattle.local_procs.specs.Plans.{sendable}
use Rattle.local_procs.specs.Stages.{plan_by, go_of}
use Rattle.local_procs.proofs.Sending.{ends_sent, small_sent, large_sent}
use Rattle.local_procs.proofs.stage.settled.Goals as goal

pub returns-in-None : goal.returns-in-None
returns-in-None c = sym ends_sent ∙ ap (λ s. sendable (plan_by (go_of c.args.root.now) s)) (sym c.in-None.is) ∙ c.loop-step.invariant

pub returns-then-not-is_too_large : goal.returns-then-not-is_too_large
returns-then-not-is_too_large c =
    sym (small_sent c.in-Some.frame (go_of c.args.root.now c.in-Some.stage) (sym c.is_too_large.ensures ∙ c.if-not-is_too_large.true))
    ∙ ap (λ s. sendable (plan_by (go_of c.args.root.now) s)) (sym c.in-Some.is) ∙ c.loop-step.invariant

pub loop-step-preserved : goal.loop-step-preserved
loop-step-preserved c =
    ap sendable c.in_ok-step-in-Some.ensures.plan
    ∙ sym (large_sent c.in-Some.frame (go_of c.args.root.now c.in-Some.stage) (sym c.is_too_large.ensures ∙ c.if-not-is_too_large.false))
    ∙ ap (λ s. sendable (plan_by (go_of c.args.root.now) s)) (sym c.in-Some.is) ∙ c.loop-step.invariant
