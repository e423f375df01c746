use Rattle.local_kinds.proofs.KindsKept.{all_kinds_kept}
use Rattle.local_kinds.proofs.laws.built_in_kinds_hold.Goals as goal

pub returns : goal.returns
returns c = all_kinds_kept
