use Rattle.std.proofs.Common.{ap, ◌∙◌}
use Rattle.apt_base.specs.Identifiers.{parts}
use Rattle.name_resolve.specs.Parts.{lent}
use Rattle.reach_map.proofs.CandidateSetsLemmas.{chain_alone}
use Rattle.reach_map.proofs.chains.add_chain_text.Goals as goal

pub returns : goal.returns
returns c =
    chain_alone c.add_chain.result c.args.unit.now c.args.names.now c.add_chain.new.names (lent c.as_slice.result.now) (parts c.args.text.now)
    (ap lent c.as_slice.ensures.value ∙ c.in_ok-chain.ensures) c.add_chain.ensures
