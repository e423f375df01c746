use Rattle.entry_laws.proofs.EntryFields.{entries_fit}
use Rattle.entry_laws.proofs.entries.entries_fit.Goals as goal

pub returns : goal.returns
returns c = entries_fit
