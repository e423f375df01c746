use Rattle.std.proofs.Common.{refl, ◌∙◌}
use Rattle.run_entries.proofs.EntryLemmas.{messages_step}
use Rattle.run_entries.proofs.recorded_entries.messages_at.Goals as goal

pub loop-at-preserved : goal.loop-at-preserved
loop-at-preserved c = messages_step _ _ _ _ _ _ _ c.loop-at-test.true refl c.in_ok-add_message.ensures ∙ c.loop-at.invariant
