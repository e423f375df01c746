use Rattle.type_subtypes.proofs.RenamedVariables.{AreRenamed}
use Rattle.type_subtypes.proofs.signatures.renamed.Given as goal

abbrev pub invariant-loop-at : goal.invariant-loop-at
invariant-loop-at l = AreRenamed l.ones l.others l.at l.by
