use Rattle.std.proofs.Common.{◌∙◌}
use Rattle.run_entries.proofs.EntryLemmas.{on_value}
use Rattle.run_entries.proofs.RootLemmas.{carried_roots}
use Rattle.run_entries.proofs.annotated.annotated_roots.Goals as goal

pub returns : goal.returns
returns c = on_value c.roots_carrying.result (λ annotated is. is ∙ carried_roots c.args.offered.now _ c.args.roots.now c.in_ok-set.ensures) c.roots_carrying.ensures
