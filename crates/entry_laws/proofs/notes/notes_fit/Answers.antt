use Rattle.entry_laws.proofs.NoteLawsProofs.{notes_fit}
use Rattle.entry_laws.proofs.notes.notes_fit.Goals as goal

pub returns : goal.returns
returns c = notes_fit
