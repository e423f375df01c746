use Rattle.closed_cuts.proofs.FieldLawsProofs.{fields-stay}
use Rattle.closed_cuts.proofs.laws.fields_stay.Goals as goal

pub returns : goal.returns
returns c = fields-stay
