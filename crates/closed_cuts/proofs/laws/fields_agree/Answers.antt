use Rattle.closed_cuts.proofs.FieldLawsProofs.{fields-agree}
use Rattle.closed_cuts.proofs.laws.fields_agree.Goals as goal

pub returns : goal.returns
returns c = fields-agree
