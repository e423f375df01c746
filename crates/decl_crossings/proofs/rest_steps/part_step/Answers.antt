use Rattle.decl_crossings.proofs.rest_steps.part_step.Goals as goal
use Rattle.decl_crossings.proofs.StepLaws.{part-alike, part-over, part-shorter}
use Rattle.decl_crossings.proofs.StepAnswers.{some-found, none-found}
use Rattle.decl_turns.specs.States.{part_at}

pub returns-in-Some : goal.returns-in-Some
returns-in-Some c =
    let read = some-found _ c.in_ok-rest.field-0 c.in-Some.rest c.in-Some.is c.in_ok-rest.ensures.passes in (
      part-alike c.args.left c.args.room c.args.before c.args.behind c.args.piece c.args.turn c.args.symbols.now c.in-Some.rest.now c.requires.chosen c.requires.room read,
      part-shorter c.args.room (part_at c.args.piece c.args.symbols.now) c.args.symbols.now c.in-Some.rest.now read,
    )

pub returns-in-None : goal.returns-in-None
returns-in-None c =
    part-over c.args.left c.args.room c.args.before c.args.behind c.args.piece c.args.turn c.args.symbols.now c.requires.chosen c.requires.room
    (none-found _ c.in_ok-rest.field-0 c.in-None.is c.in_ok-rest.ensures.passes)
