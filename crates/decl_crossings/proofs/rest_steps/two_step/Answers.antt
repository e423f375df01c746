use Rattle.decl_crossings.proofs.rest_steps.two_step.Goals as goal
use Rattle.std.proofs.Common.{◌∙◌, sym}
use Rattle.std.proofs.lemmas.Bool.{eqb-true}
use Rattle.std.proofs.Common.{length}
use Rattle.decl_crossings.proofs.StepAnswers.{some-found, none-found, less-alone, less-there, type-steps}

pub returns-then-is_empty : goal.returns-then-is_empty
returns-then-is_empty c =
    less-alone c.args.left c.args.room c.args.before c.args.symbols.now c.in-Some.rest.now c.in-len1-up.len_at_least c.requires.chosen c.requires.room
    (some-found _ c.in_ok-rest.field-0 c.in-Some.rest c.in-Some.is c.in_ok-rest.ensures.passes)
    (eqb-true (length c.in-Some.rest.now) 0 (sym c.is_empty.ensures ∙ c.if-is_empty.true))

pub returns-else-is_empty : goal.returns-else-is_empty
returns-else-is_empty c =
    type-steps c.args.left c.args.room c.args.before c.args.symbols.now c.in-Some.rest.now c.type_step.result c.in-len1-up.len_at_least c.requires.chosen c.requires.room
    (some-found _ c.in_ok-rest.field-0 c.in-Some.rest c.in-Some.is c.in_ok-rest.ensures.passes)
    c.type_step.ensures

pub returns-in-None : goal.returns-in-None
returns-in-None c =
    less-there c.args.left c.args.room c.args.before c.args.symbols.now c.in-len1-up.len_at_least c.requires.chosen c.requires.room
    (none-found _ c.in_ok-rest.field-0 c.in-None.is c.in_ok-rest.ensures.passes)
