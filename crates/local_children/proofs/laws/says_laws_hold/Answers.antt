use Rattle.local_children.proofs.Sessions.{says_laws}
use Rattle.local_children.proofs.laws.says_laws_hold.Goals as goal

pub returns : goal.returns
returns c = says_laws
