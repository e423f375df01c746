use Rattle.entry_laws.proofs.SpelledEntries.{entries_are_short}
use Rattle.entry_laws.proofs.records.entries_are_short.Goals as goal

pub returns : goal.returns
returns c = entries_are_short
