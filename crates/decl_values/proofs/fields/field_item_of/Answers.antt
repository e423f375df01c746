use Rattle.std.proofs.Common.{refl, arith}
use Rattle.decl_values.proofs.StepsSmaller.{declared-smaller}
use Rattle.decl_values.proofs.FieldItems.{field-read, field-fails, field-ends}
use Rattle.decl_values.proofs.fields.field_item_of.Goals as goal

pub returns-in-Ok-declared_step_of-clause-item : goal.returns-in-Ok-declared_step_of-clause-item
returns-in-Ok-declared_step_of-clause-item c = λ n ds. field-read c.args.room c.args.far n ds c.args.symbols.now c.in-Ok-declared_step_of.step.1.now c.in-Ok.constant c.in-Ok.end _ c.in-Ok-declared_step_of.step.0 c.in-Ok.ensures c.in-Ok-declared_step_of.ensures refl c.furthest-far.ensures

pub returns-in-Ok-declared_step_of-clause-smaller : goal.returns-in-Ok-declared_step_of-clause-smaller
returns-in-Ok-declared_step_of-clause-smaller c = omega (arith, c.in-Ok.ensures.fewer, declared-smaller c.args.room c.in-Ok.end.rest.now _ c.in-Ok-declared_step_of.step.1.now c.in-Ok-declared_step_of.ensures)

pub returns-in-Err-declared_step_of-clause-item : goal.returns-in-Err-declared_step_of-clause-item
returns-in-Err-declared_step_of-clause-item c = rw (c.fallen.ensures, c.furthest-far.ensures) (λ n ds. field-ends c.args.room c.args.far n ds c.args.symbols.now c.in-Ok.constant c.in-Ok.end c.in-Err-declared_step_of.fault c.in-Ok.ensures c.in-Err-declared_step_of.ensures)

pub returns-in-Err-clause-item : goal.returns-in-Err-clause-item
returns-in-Err-clause-item c = rw c.fallen-in-Err.ensures (λ n ds. field-fails c.args.room c.args.far n ds c.args.symbols.now c.in-Err.fault c.in-Err.ensures)
