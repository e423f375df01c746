use Rattle.closed_cuts.proofs.PresenceLawsProofs.{presence-stays}
use Rattle.closed_cuts.proofs.laws.presence_stays.Goals as goal

pub returns : goal.returns
returns c = presence-stays
