use Rattle.std.proofs.Common.{ap, ◌∙◌}
use Rattle.name_resolve.specs.Meaning.{members_of, imported}
use Rattle.name_resolve.specs.Remembered.{tops_in}
use Rattle.name_resolve.proofs.LookSteps.{if_true, if_false}
use Rattle.name_resolve.proofs.NameParts.{ends-split, front-split}
use Rattle.name_resolve.proofs.member_types.MemberTypes.by_static_single.Goals as goal

pub returns-then-eq-clause-value : goal.returns-then-eq-clause-value
returns-then-eq-clause-value c = λ members agrees.
    c.in_ok-finds.ensures.value members agrees
    ∙ ap (λ names. members_of members (imported (tops_in c.args.self.now) c.args.part names) c.args.name.now) (front-split c.args.names.now c.in-Some.front.now c.in-Some.last.now c.in-Some.ensures.cases.0)
    ∙ if_true _ _ _ (c.if-eq.ensures ∙ ends-split c.args.names.now c.in-Some.front.now c.in-Some.last.now c.in-Some.ensures.cases.0 c.args.name.now)

pub returns-clause-value : goal.returns-clause-value
returns-clause-value c = λ members agrees.
    if_false _ _ _ (c.if-eq.ensures ∙ ends-split c.args.names.now c.in-Some.front.now c.in-Some.last.now c.in-Some.ensures.cases.0 c.args.name.now)
