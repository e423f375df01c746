use Rattle.entry_laws.proofs.KeptFiles.{files_are_kept}
use Rattle.entry_laws.proofs.entries.files_are_kept.Goals as goal

pub returns : goal.returns
returns c = files_are_kept
