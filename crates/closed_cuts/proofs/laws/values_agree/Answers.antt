use Rattle.closed_cuts.proofs.ValueLawsProofs.{values-agree}
use Rattle.closed_cuts.proofs.laws.values_agree.Goals as goal

pub returns : goal.returns
returns c = values-agree
