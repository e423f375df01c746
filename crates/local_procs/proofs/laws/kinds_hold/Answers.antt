use Rattle.local_procs.proofs.KeptKinds.{all_keep_kinds}
use Rattle.local_procs.proofs.laws.kinds_hold.Goals as goal

pub returns : goal.returns
returns c = all_keep_kinds
