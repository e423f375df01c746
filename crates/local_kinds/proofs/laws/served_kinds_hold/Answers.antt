use Rattle.local_kinds.proofs.ServedKinds.{served_kept}
use Rattle.local_kinds.proofs.laws.served_kinds_hold.Goals as goal

pub returns : goal.returns
returns c = served_kept
