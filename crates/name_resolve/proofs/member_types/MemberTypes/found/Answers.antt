use Rattle.std.proofs.Common.{◌∙◌}
use Rattle.name_resolve.specs.Shown.{find_of}
use Rattle.name_resolve.proofs.LookSteps.{found_one, found_many, found_empty, alone_is, not_alone}
use Rattle.name_resolve.proofs.member_types.MemberTypes.found.Goals as goal

pub returns-in_default-clause-value : goal.returns-in_default-clause-value
returns-in_default-clause-value c = λ members agrees. found_empty (λ n. n.now) _ _ _ c.args.names.now c.in_default.ensures.cases

pub returns-then-is_empty-clause-value : goal.returns-then-is_empty-clause-value
returns-then-is_empty-clause-value c = λ members agrees.
    c.in_ok-finds.ensures.value members agrees
    ∙ found_one (λ n. n.now) _ _ c.args.header (find_of c.args.at.now) c.args.names.now c.in-Some.first.now (alone_is c.args.names.now c.in-Some.others.now c.in-Some.first.now c.in-Some.ensures.cases.0 c.if-is_empty.ensures)

pub returns-clause-value : goal.returns-clause-value
returns-clause-value c = λ members agrees.
    c.in_ok-finds-2.ensures.value members agrees
    ∙ found_many (λ n. n.now) _ _ c.args.header (find_of c.args.at.now) c.args.names.now (not_alone c.args.names.now c.in-Some.others.now c.in-Some.first.now c.in-Some.ensures.cases.0 c.if-is_empty.ensures)
