use Rattle.std.proofs.Common.{◌+◌, take, sym, subst}
use Rattle.vector_tables.specs.Answers.{AreOutcomes}
use Rattle.vector_tables.proofs.TableOutcomes.{outcomes_more}
use Rattle.vector_tables.proofs.outcome.outcomes.Goals as goal

pub loop-table-preserved : goal.loop-table-preserved
loop-table-preserved c =
    subst (λ os. AreOutcomes (take (c.loop-table.table-index + 1) c.args.tables.now) os) (sym c.in_ok-push.ensures.items)
    (outcomes_more c.args.tables.now c.loop-table.outcomes.items c.loop-table.table-index _ c.in_ok-outcome_of.field-0 c.loop-table-test.true c.loop-table.invariant c.in_ok-outcome_of.ensures)
