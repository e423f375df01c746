use Rattle.run_entries.proofs.NumberLemmas.{entries_numbered}
use Rattle.entry_laws.proofs.entries.messages_are_numbered.Goals as goal

pub returns : goal.returns
returns c = entries_numbered
