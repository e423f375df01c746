use Rattle.std.proofs.Common.{ap}
use Rattle.std.specs.List.{flat_map}
use Rattle.std.specs.Option.{option_to_list}
use Rattle.reach_map.proofs.CandidateSetsLemmas.{with_none}
use Rattle.reach_map.proofs.written.add_optional.Goals as goal

pub returns-in-None : goal.returns-in-None
returns-in-None g c =
    let chains = g.T.Written.chains in
    with_none c.args.unit.now c.args.names.now (flat_map chains (option_to_list c.args.part.now)) (ap (λ o. flat_map chains (option_to_list o)) c.in-None.is)
