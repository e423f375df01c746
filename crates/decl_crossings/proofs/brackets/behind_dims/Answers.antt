use Rattle.decl_crossings.proofs.brackets.behind_dims.Goals as goal
use Rattle.decl_crossings.proofs.StepLaws.{dims-not-longer}

pub returns-in-Ok-clause-smaller : goal.returns-in-Ok-clause-smaller
returns-in-Ok-clause-smaller c = dims-not-longer c.args.room c.args.symbols.now c.in-Ok.rest.now c.in-Ok.ensures
