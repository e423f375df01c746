use Rattle.std.proofs.Common.{map, ap, ◌∙◌}
use Rattle.name_resolve.specs.Supertypes.{part_name}
use Rattle.name_resolve.specs.Parts.{lent}
use Rattle.reach_map.proofs.CandidateSetsLemmas.{chain_alone}
use Rattle.reach_map.proofs.types.add_names.Goals as goal

pub returns : goal.returns
returns c =
    chain_alone c.add_chain.result c.args.unit.now c.args.names.now c.add_chain.new.names (lent c.as_slice.result.now) (map part_name c.args.parts.now)
    (ap lent c.as_slice.ensures.value ∙ c.in_ok-chain.ensures) c.add_chain.ensures
