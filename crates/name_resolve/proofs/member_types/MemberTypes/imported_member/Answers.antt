use Rattle.std.proofs.Common.{ap, ◌∙◌}
use Rattle.name_resolve.specs.Meaning.{members_of}
use Rattle.name_resolve.proofs.member_types.MemberTypes.imported_member.Goals as goal

pub returns-clause-value : goal.returns-clause-value
returns-clause-value c = λ members agrees. c.in_ok-finds.ensures.value members agrees ∙ ap (λ x. members_of members x c.args.name.now) c.in_ok-of.ensures.value
