use Rattle.std.proofs.Common.{arith, ◌∙◌, sym, ap}
use Rattle.decl_syntax.specs.Shape.{unit_form}
use Rattle.decl_syntax.proofs.Spelled.{whole_unit-spelled, is_none}
use Rattle.decl_syntax.proofs.unit_reading.parse_shape.Goals as goal

pub new-requires : goal.new-requires
new-requires c = (whole_unit-spelled c.args.bytes.now c.in-Ok.text (λ i. omega (arith, c.type_inv.bytes i)) c.in-Ok.ensures).0

pub returns-in_ok-unit-in-Ok-clause-found : goal.returns-in_ok-unit-in-Ok-clause-found
returns-in_ok-unit-in-Ok-clause-found c =
    (whole_unit-spelled c.args.bytes.now c.in-Ok.text (λ i. omega (arith, c.type_inv.bytes i)) c.in-Ok.ensures).1 ∙ ap unit_form (sym c.in_ok-unit-in-Ok.ensures)

pub returns-in-Err-clause-bad : goal.returns-in-Err-clause-bad
returns-in-Err-clause-bad c = is_none c.args.bytes.now c.in-Err.fault c.in-Err.ensures
