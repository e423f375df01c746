use Rattle.std.proofs.Common.{◌≡◌, ap, ◌∙◌}
use Rattle.name_resolve.specs.Meaning.{scope_of, tops_of, members, members_within, found, meaning}
use Rattle.name_resolve.specs.Parts.{lent, left}
use Rattle.name_resolve.specs.Shown.{find_of}
use Rattle.name_resolve.proofs.RememberedLemmas.{left-agrees}
use Rattle.name_resolve.proofs.member_types.MemberTypes.meaning.Goals as goal

-- all levels of supertypes are among the ways to find member types that agree with what is known
pub returns-in-Ok-clause-value : goal.returns-in-Ok-clause-value
unfolding meaning members
returns-in-Ok-clause-value c =
    c.in-Ok.ensures.value (left c.loop.self.table.now 64) (left-agrees c.loop.self c.loop.invariant.0 64)
    ∙ ap (λ t. found (tops_of t) (members_within (tops_of t) 64) (scope_of c.args.header (find_of c.args.at.now)) (lent c.args.names.now)) c.loop.invariant.1
