use Rattle.entry_laws.proofs.KeptFiles.{paths_are_distinct}
use Rattle.entry_laws.proofs.entries.paths_are_distinct.Goals as goal

pub returns : goal.returns
returns c = paths_are_distinct
