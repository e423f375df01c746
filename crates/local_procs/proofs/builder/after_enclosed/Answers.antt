use Rattle.std.proofs.Common.{◌≡◌, ◌++◌, IfOk, ap, ◌∙◌, subst}
use Rattle.local_procs.specs.Contents.{elements_in}
use Rattle.local_procs.specs.Stages.{plan_by, build_go, build_rank}
use Rattle.local_procs.proofs.MembersLeft.{enclosed_is, heading_is, few, falls_within}
use Rattle.local_procs.proofs.builder.after_enclosed.Goals as goal

pub returns-clause-plan : goal.returns-clause-plan
returns-clause-plan c =
    subst (λ plan. IfOk c.rest_of.result (λ step. plan_by (build_go c.args.root.now) step ≡ plan))
    (enclosed_is c.args.root.now c.args.info.now c.args.reply.now c.in_ok-canonical.canonical c.in_ok-members.members c.add-3.new.self
    c.in_ok-canonical.ensures c.in_ok-members.ensures
    (heading_is c.args.info.now c.in_ok-text.text c.add.new.self c.add-2.new.self c.add-3.new.self c.in_ok-text.ensures c.in_ok-add.ensures
    (c.in_ok-add-2.ensures ∙ ap (λ s. c.add.new.self ++ s) c.as_str.ensures) c.in_ok-add-3.ensures))
    c.rest_of.ensures.plan

pub returns-clause-falls : goal.returns-clause-falls
returns-clause-falls c =
    falls_within build_rank _ 4002 (few c.in_ok-members.members (elements_in c.args.reply.now) c.in_ok-members.ensures) c.rest_of.result c.rest_of.ensures.falls
