use Rattle.std.proofs.Common.{◌∙◌}
use Rattle.run_entries.proofs.PositionLemmas.{range_step}
use Rattle.run_entries.proofs.parts.all_places.Goals as goal

pub loop-at-preserved : goal.loop-at-preserved
loop-at-preserved c = range_step _ _ _ _ c.loop-at-test.true c.in_ok-push.ensures.ok ∙ c.loop-at.invariant
