use Rattle.std.proofs.Common.{ap, ◌∙◌}
use Rattle.name_resolve.specs.Meaning.{Header, found, supertype_found}
use Rattle.name_resolve.specs.Parts.{lent}
use Rattle.name_resolve.specs.Remembered.{tops_in}
use Rattle.name_resolve.specs.Shown.{find_of}
use Rattle.name_resolve.proofs.member_types.MemberTypes.supertype.Goals as goal

pub returns-in_ok-finds-in-Written-clause-value : goal.returns-in_ok-finds-in-Written-clause-value
unfolding supertype_found
returns-in_ok-finds-in-Written-clause-value c = λ members agrees.
    rw c.in-Written.is
    (c.in_ok-finds-in-Written.ensures.value members agrees
    ∙ ap (found (tops_in c.args.self.now) members (Header (find_of c.args.of.now))) (ap lent c.as_slice.ensures.value ∙ c.in_ok-names-in-Written.ensures))

pub returns-in_ok-finds-in-Object-clause-value : goal.returns-in_ok-finds-in-Object-clause-value
unfolding supertype_found
returns-in_ok-finds-in-Object-clause-value c = λ members agrees. rw c.in-Object.is c.in_ok-finds-in-Object.ensures

pub returns-in_ok-finds-in-Enum-clause-value : goal.returns-in_ok-finds-in-Enum-clause-value
unfolding supertype_found
returns-in_ok-finds-in-Enum-clause-value c = λ members agrees. rw c.in-Enum.is c.in_ok-finds-in-Enum.ensures

pub returns-in_ok-finds-in-Annotation-clause-value : goal.returns-in_ok-finds-in-Annotation-clause-value
unfolding supertype_found
returns-in_ok-finds-in-Annotation-clause-value c = λ members agrees. rw c.in-Annotation.is c.in_ok-finds-in-Annotation.ensures
