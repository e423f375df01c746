use Rattle.type_levels.proofs.MoreSteps.{more_settles}
use Rattle.type_levels.proofs.laws.more_steps_settle.Goals as goal

pub returns : goal.returns
returns g c = more_settles
