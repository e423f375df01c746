use Rattle.type_overriding.proofs.SignaturesByNumbers.{AreErasedSoFar}
use Rattle.type_overriding.proofs.signatures.same_erased.Given as goal

abbrev pub invariant-loop-place : goal.invariant-loop-place
invariant-loop-place l = AreErasedSoFar l.table l.initial.types l.types l.ones l.others l.place l.all
