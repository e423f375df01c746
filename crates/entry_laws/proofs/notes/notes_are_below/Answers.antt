use Rattle.entry_laws.proofs.NoteLawsProofs.{notes_are_below}
use Rattle.entry_laws.proofs.notes.notes_are_below.Goals as goal

pub returns : goal.returns
returns c = notes_are_below
