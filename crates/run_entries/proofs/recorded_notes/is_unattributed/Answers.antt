use Rattle.run_entries.proofs.NoteLemmas.{unattributed_by}
use Rattle.run_entries.proofs.recorded_notes.is_unattributed.Goals as goal

pub returns : goal.returns
returns c = unattributed_by _ _ _ _ c.is_isolating.ensures c.if-not-is_isolating.false c.has_some.ensures c.in_ok-left.ensures
