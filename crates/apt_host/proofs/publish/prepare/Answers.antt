use Rattle.std.proofs.Common.{arith}
use Rattle.std.proofs.lemmas.Grind.{common_steps}
use Rattle.std.proofs.lemmas.List.Elements.{All-push}
use Rattle.tree_store.specs.RecordFormat.{IsEntry}
use Rattle.apt_host.proofs.publish.prepare.Goals as goal

pub loop-file-preserved : goal.loop-file-preserved
loop-file-preserved c = record {
  entries = grind (arith, common_steps);
  stored = grind (arith, common_steps);
  fit = rw c.in_ok-push.ensures.ok (All-push IsEntry c.loop-file.entries c.entry_of.result c.loop-file.invariant.fit c.entry_of.ensures.fits);
}
