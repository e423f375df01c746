use Rattle.std.proofs.Common.{◌∙◌}
use Rattle.run_entries.proofs.RootLemmas.{roots_step}
use Rattle.run_entries.proofs.annotated.roots_carrying.Goals as goal

pub loop-root-preserved : goal.loop-root-preserved
loop-root-preserved c = roots_step _ _ _ _ _ _ c.loop-root-test.true c.root-item.is c.in_ok-add_root.ensures ∙ c.loop-root.invariant
