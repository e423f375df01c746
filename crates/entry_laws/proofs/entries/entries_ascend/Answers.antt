use Rattle.entry_laws.proofs.EntriesInOrder.{entries_ascend}
use Rattle.entry_laws.proofs.entries.entries_ascend.Goals as goal

pub returns : goal.returns
returns c = entries_ascend
