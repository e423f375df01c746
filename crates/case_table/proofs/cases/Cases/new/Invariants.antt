use Rattle.case_table.proofs.IndexLemmas.{IsBegun}
use Rattle.case_table.proofs.cases.Cases.new.Given as goal

abbrev pub invariant-loop-i : goal.invariant-loop-i
invariant-loop-i l = IsBegun l.rows l.i l.heads l.nexts l.places
