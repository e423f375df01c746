use Rattle.closed_cuts.proofs.ValueLawsProofs.{values-stay}
use Rattle.closed_cuts.proofs.laws.values_stay.Goals as goal

pub returns : goal.returns
returns c = values-stay
