use Rattle.std.proofs.Common.{refl, ◌∙◌}
use Rattle.run_entries.proofs.EntryLemmas.{files_step}
use Rattle.run_entries.proofs.recorded_entries.files_at.Goals as goal

pub loop-at-preserved : goal.loop-at-preserved
loop-at-preserved c = files_step _ _ _ _ _ _ _ _ c.loop-at-test.true refl c.in_ok-add_file.ensures ∙ c.loop-at.invariant
