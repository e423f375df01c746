use Rattle.decl_crossings.proofs.walk.step_at.Goals as goal
use Rattle.std.proofs.Common.{sym, subst}
use Rattle.decl_crossings.specs.declared.spots.Spot.{Spot}
use Rattle.decl_crossings.specs.Steps.{CrossesAt, StepsTo}

pub returns-in-Field : goal.returns-in-Field
returns-in-Field c = subst (λ (s : Spot). StepsTo c.args.left (CrossesAt s c.args.left c.args.symbols.now) c.args.symbols.now c.field_step.result) (sym c.in-Field.is) c.field_step.ensures
