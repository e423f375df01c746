use Rattle.decl_crossings.proofs.walk.move_at.Goals as goal
use Rattle.decl_crossings.specs.Steps.{CrossesAt}
use Rattle.decl_crossings.proofs.StepAnswers.{moved-to}

pub returns : goal.returns
returns c = moved-to c.args.left (CrossesAt c.args.spot c.args.left c.args.symbols.now) c.args.symbols.now c.in_ok-step.step c.move_of.result c.move_of.ensures c.in_ok-step.ensures
