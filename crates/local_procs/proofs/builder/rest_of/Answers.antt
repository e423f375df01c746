use Rattle.std.proofs.Common.{◌≡◌, Some, IfOk, ap, ◌∙◌, subst}
use Rattle.local_procs.specs.Stages.{plan_by, build_go}
use Rattle.local_procs.proofs.MembersLeft.{one_asked, all_asked}
use Rattle.local_procs.proofs.builder.rest_of.Goals as goal

pub returns-in_ok-frame-in-Some-clause-plan : goal.returns-in_ok-frame-in-Some-clause-plan
returns-in_ok-frame-in-Some-clause-plan c =
    one_asked c.args.root.now c.args.building.canonical c.args.building.members c.args.building.next c.args.building.text
    c.in_ok-member-in-Some.member c.in_ok-frame-in-Some.frame
    (ap Some c.in_ok-member-in-Some.ensures ∙ c.in-Some.ensures.value) c.in_ok-frame-in-Some.ensures

pub returns-in_ok-add-in-None-clause-plan : goal.returns-in_ok-add-in-None-clause-plan
returns-in_ok-add-in-None-clause-plan c =
    subst (λ plan. IfOk c.creates.result (λ step. plan_by (build_go c.args.root.now) step ≡ plan))
    (all_asked c.args.root.now c.args.building.canonical c.args.building.members c.args.building.next c.args.building.text c.into_bytes.result
    c.in-None.ensures.value (c.into_bytes.ensures ∙ c.in_ok-add-in-None.ensures))
    c.creates.ensures.plan
