use Rattle.std.proofs.Common.{◌≡◌, take}
use Rattle.std.specs.List.{flat_map}
use Rattle.reach_map.specs.Chains.{type_chains, argument_chains}
use Rattle.reach_map.specs.CandidateSets.{with_chains}
use Rattle.reach_map.proofs.types.+types.Given as goal

-- the candidates of the items so far are added
abbrev pub invariant-add_parts-loop-part : goal.invariant-add_parts-loop-part
invariant-add_parts-loop-part l = l.names ≡ with_chains l.unit l.initial.names (flat_map argument_chains (take l.part-index l.parts))

abbrev pub invariant-add_types-loop-text : goal.invariant-add_types-loop-text
invariant-add_types-loop-text l = l.names ≡ with_chains l.unit l.initial.names (flat_map type_chains (take l.text-index l.texts))
