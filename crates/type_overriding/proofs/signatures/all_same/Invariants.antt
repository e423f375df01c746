use Rattle.type_overriding.proofs.SignaturesByNumbers.{AreSameSoFar}
use Rattle.type_overriding.proofs.signatures.all_same.Given as goal

abbrev pub invariant-loop-place : goal.invariant-loop-place
invariant-loop-place l = AreSameSoFar l.initial.types l.types l.by l.ones l.others l.place
