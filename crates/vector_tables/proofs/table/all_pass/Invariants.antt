use Rattle.vector_tables.specs.Cases.{IsPassed}
use Rattle.vector_tables.proofs.CasesLemmas.{PassSoFar}
use Rattle.vector_tables.proofs.table.all_pass.Given as goal

abbrev pub invariant-loop-case : goal.invariant-loop-case
invariant-loop-case l = PassSoFar IsPassed l.cases l.case-index
