use Rattle.decl_crossings.proofs.parts.behind_part.Goals as goal
use Rattle.decl_turns.specs.States.{part_at}
use Rattle.decl_crossings.proofs.StepLaws.{part-shorter}

pub returns-in-Ok-clause-smaller : goal.returns-in-Ok-clause-smaller
returns-in-Ok-clause-smaller c = part-shorter c.args.room (part_at c.args.piece c.args.symbols.now) c.args.symbols.now c.in-Ok.rest.now c.in-Ok.ensures
