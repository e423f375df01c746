use Rattle.decl_crossings.proofs.rest_steps.rest_step.Goals as goal
use Rattle.std.proofs.Common.{◌∙◌, sym}
use Rattle.decl_turns.specs.States.{after_of}
use Rattle.decl_crossings.specs.Crossings.{EndCrosses, RestCrosses}
use Rattle.decl_crossings.proofs.FieldRows.{nothing-on}
use Rattle.decl_crossings.proofs.StepLaws.{end-alike}
use Rattle.decl_crossings.proofs.StepAnswers.{steps-alike}

pub returns-in-Nothing : goal.returns-in-Nothing
returns-in-Nothing c = nothing-on c.args.left c.args.before c.args.symbols.now (sym c.next_of.ensures ∙ c.in-Nothing.is)

pub returns-in-End : goal.returns-in-End
returns-in-End c =
    steps-alike c.args.left (RestCrosses c.args.left (after_of c.args.before) c.args.symbols.now) (EndCrosses c.args.left c.args.symbols.now) c.args.symbols.now c.end_step.result
    (end-alike c.args.left c.args.before c.args.symbols.now (sym c.next_of.ensures ∙ c.in-End.is)) c.end_step.ensures
