use Rattle.run_entries.proofs.StandLemmas.{entries_stand}
use Rattle.run_entries.proofs.laws.entries_stand.Goals as goal

pub returns : goal.returns
returns c = entries_stand
