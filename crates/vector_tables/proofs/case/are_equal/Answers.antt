use Rattle.std.proofs.Common.{arith}
use Rattle.vector_tables.proofs.CasesLemmas.{equal_more, not_equal_at}
use Rattle.vector_tables.proofs.case.are_equal.Goals as goal

pub returns-then-not-is_equal : goal.returns-then-not-is_equal
returns-then-not-is_equal c = not_equal_at c.args.found.now c.args.list.now c.loop-at.at _ _ (omega arith) (omega arith) c.if-not-is_equal.ensures

pub loop-at-preserved : goal.loop-at-preserved
loop-at-preserved c = equal_more c.args.found.now c.args.list.now c.loop-at.at _ _ (omega arith) (omega arith) c.loop-at.invariant c.if-not-is_equal.ensures
