use Rattle.std.proofs.Common.{take}
use Rattle.vector_tables.specs.Answers.{AreOutcomes}
use Rattle.vector_tables.proofs.outcome.outcomes.Given as goal

-- what came of the tables so far
abbrev pub invariant-loop-table : goal.invariant-loop-table
invariant-loop-table l = AreOutcomes (take l.table-index l.tables) l.outcomes.items
