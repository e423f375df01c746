use Rattle.std.proofs.Common.{◌∙◌}
use Rattle.run_entries.proofs.NoteLemmas.{notes_step}
use Rattle.run_entries.proofs.recorded_notes.all_found.Goals as goal

pub loop-processor-preserved : goal.loop-processor-preserved
loop-processor-preserved c = notes_step _ _ _ _ _ c.loop-processor-test.true c.in_ok-add_found.ensures ∙ c.loop-processor.invariant
