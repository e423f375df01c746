use Rattle.std.proofs.Common.{arith}
use Rattle.type_relations.proofs.SimpleTypes.{variable-zero, variable-gives}
use Rattle.type_relations.proofs.erasing.+bounds.Goals as goal

pub variable_erasure-returns-then-steps-eq0 : goal.variable_erasure-returns-then-steps-eq0
variable_erasure-returns-then-steps-eq0 t c = variable-zero c.args.table.now c.args.steps c.args.at.now c.if-steps-eq0.true

pub variable_erasure-returns : goal.variable_erasure-returns
variable_erasure-returns t c =
    variable-gives c.args.table.now c.args.at.now c.bound_erasure.result c.args.steps _ (omega (arith, c.if-steps-eq0.false)) c.in_ok-bound.ensures c.bound_erasure.ensures
