use Rattle.entry_laws.proofs.KeptFiles.{stores_are_distinct}
use Rattle.entry_laws.proofs.entries.stores_are_distinct.Goals as goal

pub returns : goal.returns
returns c = stores_are_distinct
