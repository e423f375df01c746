use Rattle.case_table.proofs.IndexLemmas.{IsReached}
use Rattle.case_table.proofs.cases.place_of.Given as goal

-- no row from the end on has the word, and the row before it has its key
abbrev pub invariant-loop-end : goal.invariant-loop-end
invariant-loop-end l = IsReached l.rows l.count l.word l.end

abbrev pub decreases-loop-end : goal.decreases-loop-end
decreases-loop-end l = l.end
