use Rattle.local_kinds.proofs.ReadingFrames.{readers_in_turn}
use Rattle.local_kinds.proofs.laws.readers_hold.Goals as goal

pub returns : goal.returns
returns c = readers_in_turn
