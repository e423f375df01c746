use Rattle.closed_cuts.proofs.PresenceLawsProofs.{presence-agrees}
use Rattle.closed_cuts.proofs.laws.presence_agrees.Goals as goal

pub returns : goal.returns
returns c = presence-agrees
