use Rattle.entry_laws.proofs.RecordLawsProofs.{runs_are_recorded}
use Rattle.entry_laws.proofs.records.runs_are_recorded.Goals as goal

pub returns : goal.returns
returns c = runs_are_recorded
