use Rattle.entry_laws.proofs.NoteLawsProofs.{notes_ascend}
use Rattle.entry_laws.proofs.notes.notes_ascend.Goals as goal

pub returns : goal.returns
returns c = notes_ascend
