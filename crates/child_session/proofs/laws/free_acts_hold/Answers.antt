use Rattle.child_session.proofs.FreeActs.{free-acts}
use Rattle.child_session.proofs.laws.free_acts_hold.Goals as goal

pub returns : goal.returns
returns c = free-acts
