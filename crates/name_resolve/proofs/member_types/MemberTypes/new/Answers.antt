use Rattle.std.proofs.Common.{refl}
use Rattle.name_resolve.proofs.RememberedLemmas.{none-right}
use Rattle.name_resolve.proofs.member_types.MemberTypes.new.Goals as goal

pub returns-clause-right : goal.returns-clause-right
returns-clause-right c = none-right _ c.requires c.new.ensures.items refl
