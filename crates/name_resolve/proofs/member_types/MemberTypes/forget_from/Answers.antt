use Rattle.std.proofs.Common.{ltb, rules}
use Rattle.std.proofs.lemmas.Map.Made.{filter_same_pairs}
use Rattle.name_resolve.proofs.member_types.MemberTypes.forget_from.Goals as goal

pub returns-clause-places : goal.returns-clause-places
returns-clause-places c = filter_same_pairs _ (λ e. ltb e.1 c.args.place) _ (λ k v b w f t. search rules) _ _ c.retain.ensures.filtered
