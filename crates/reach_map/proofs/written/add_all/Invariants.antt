use Rattle.std.proofs.Common.{◌≡◌, take}
use Rattle.std.specs.List.{flat_map}
use Rattle.reach_map.specs.CandidateSets.{with_chains}
use Rattle.reach_map.proofs.written.add_all.Given as goal

-- the candidates of the items so far are added
abbrev pub invariant-loop-item : goal.invariant-loop-item
invariant-loop-item g l = l.names ≡ with_chains l.unit l.initial.names (flat_map g.T.Written.chains (take l.item-index l.items))
