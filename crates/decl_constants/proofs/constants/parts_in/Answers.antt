use Rattle.std.proofs.Common.{rules, arith}
use Rattle.decl_constants.proofs.Parts.{parts-goes, parts-fails, parts-ends, parts-lost}
use Rattle.decl_constants.proofs.constants.parts_in.Goals as goal

pub returns-in-None : goal.returns-in-None
returns-in-None c = parts-fails c.row.all c.row.rest.now c.row.at _ _ c.row.invariant.1 (omega (arith, c.row-test.true)) c.in_ok-value.ensures c.in-None.is c.row.invariant.0

pub row-preserved : goal.row-preserved
row-preserved c = (
  parts-goes c.row.all _ c.row.rest.now _ c.row.at _ c.in-Some.value _ c.row.invariant.1 (omega (arith, c.row-test.true)) c.in_ok-value.ensures c.in-Some.is c.in_ok-push-in-Some.ensures.ok c.behind-rest.ensures c.row.invariant.0,
  search rules,
)

pub returns-in_ok-push-in-Some-2 : goal.returns-in_ok-push-in-Some-2
returns-in_ok-push-in-Some-2 c = parts-ends c.row.all _ c.row.rest.now _ c.in-Some-2.value _ (omega (arith, c.row-test.false, c.row.invariant.1)) c.in_ok-value-2.ensures c.in-Some-2.is c.in_ok-push-in-Some-2.ensures.ok c.row.invariant.0

pub returns-in-None-2 : goal.returns-in-None-2
returns-in-None-2 c = parts-lost c.row.all c.row.rest.now _ _ (omega (arith, c.row-test.false, c.row.invariant.1)) c.in_ok-value-2.ensures c.in-None-2.is c.row.invariant.0
