use Rattle.decl_crossings.proofs.field_steps.field_step.Goals as goal
use Rattle.std.proofs.Common.{◌∙◌, sym}
use Rattle.decl_crossings.specs.Crossings.{EndCrosses, FieldCrosses}
use Rattle.decl_crossings.proofs.StepLaws.{no-value-alike}
use Rattle.decl_crossings.proofs.StepAnswers.{steps-alike, value-there, no-value}

pub returns-then-not-is_next : goal.returns-then-not-is_next
returns-then-not-is_next c =
    steps-alike c.args.left (FieldCrosses c.args.left c.args.symbols.now) (EndCrosses c.args.left c.args.symbols.now) c.args.symbols.now c.end_step.result
    (no-value-alike c.args.left c.args.symbols.now (sym c.is_next.ensures ∙ c.if-not-is_next.true)) c.end_step.ensures

pub returns-then-ends_value : goal.returns-then-ends_value
returns-then-ends_value c = no-value c.args.left c.args.symbols.now (sym c.is_next.ensures ∙ c.if-not-is_next.false) (sym c.ends_value.ensures ∙ c.if-ends_value.true)

pub returns : goal.returns
returns c = value-there c.args.left c.args.symbols.now (sym c.is_next.ensures ∙ c.if-not-is_next.false) (sym c.ends_value.ensures ∙ c.if-ends_value.false)
