use Rattle.vector_tables.specs.FrameCases.{IsFramePassed}
use Rattle.vector_tables.proofs.CasesLemmas.{PassSoFar}
use Rattle.vector_tables.proofs.frame_case.all_frames_pass.Given as goal

abbrev pub invariant-loop-case : goal.invariant-loop-case
invariant-loop-case l = PassSoFar IsFramePassed l.cases l.case-index
