use Rattle.entry_laws.proofs.EntryFields.{entries_are_numbered}
use Rattle.entry_laws.proofs.entries.entries_are_numbered.Goals as goal

pub returns : goal.returns
returns c = entries_are_numbered
