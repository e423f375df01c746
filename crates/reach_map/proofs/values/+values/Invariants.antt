use Rattle.std.proofs.Common.{◌≡◌, take}
use Rattle.std.specs.List.{flat_map}
use Rattle.reach_map.specs.Chains.{value_chains, pair_chains}
use Rattle.reach_map.specs.CandidateSets.{with_chains}
use Rattle.reach_map.proofs.values.+values.Given as goal

-- the candidates of the items so far are added
abbrev pub invariant-add_values-loop-item : goal.invariant-add_values-loop-item
invariant-add_values-loop-item l = l.names ≡ with_chains l.unit l.initial.names (flat_map value_chains (take l.item-index l.items))

abbrev pub invariant-add_pairs-loop-pair : goal.invariant-add_pairs-loop-pair
invariant-add_pairs-loop-pair l = l.names ≡ with_chains l.unit l.initial.names (flat_map pair_chains (take l.pair-index l.pairs))
