use Rattle.std.proofs.Common.{arith}
use Rattle.vector_tables.specs.Cases.{IsPassed}
use Rattle.vector_tables.proofs.CasesLemmas.{pass_more}
use Rattle.vector_tables.proofs.table.all_pass.Goals as goal

pub loop-case-preserved : goal.loop-case-preserved
loop-case-preserved c = pass_more IsPassed c.args.cases.now c.loop-case.case-index _ c.in_ok-passes.field-0 c.loop-case.invariant c.loop-case-test.true c.in_ok-passes.ensures c.if-not-branch.false

pub returns : goal.returns
returns c = λ k d h. c.loop-case.invariant.passed k d (omega (arith, h))
