use Rattle.vector_tables.proofs.CasesLemmas.{AreEqual}
use Rattle.vector_tables.proofs.case.are_equal.Given as goal

abbrev pub invariant-loop-at : goal.invariant-loop-at
invariant-loop-at l = AreEqual l.found l.list l.at
