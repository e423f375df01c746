use Rattle.std.proofs.Common.{[], refl}
use Rattle.reach_map.proofs.CandidateSetsLemmas.{with_next, with_none}
use Rattle.reach_map.proofs.written.add_all.Goals as goal

pub loop-item-preserved : goal.loop-item-preserved
loop-item-preserved g c = with_next _ g.T.Written.chains _ _ _ _ _ c.item-item.result c.item-item.result c.loop-item-test.true c.item-item.is c.loop-item.invariant c.in_ok-add.ensures

pub loop-item-init : goal.loop-item-init
loop-item-init g c = with_none c.args.unit.now c.args.names.now [] refl
