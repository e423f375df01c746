use Rattle.type_overriding.proofs.RenamedNumbers.{AreRenamed}
use Rattle.type_overriding.proofs.signatures.renamed.Given as goal

abbrev pub invariant-loop-place : goal.invariant-loop-place
invariant-loop-place l = AreRenamed l.initial.types l.types l.ones l.others l.place l.by
