use Rattle.vector_tables.proofs.FrameCasesLemmas.{HasTaken}
use Rattle.vector_tables.proofs.verdict.verdict_on.Given as goal

-- the reader has taken the bytes so far, which begin a frame
abbrev pub invariant-loop-at : goal.invariant-loop-at
invariant-loop-at l = HasTaken l.bytes l.at l.reader
