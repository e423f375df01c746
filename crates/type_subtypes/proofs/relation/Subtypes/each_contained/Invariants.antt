use Rattle.type_subtypes.specs.Subtypes.{next_of}
use Rattle.type_subtypes.proofs.ArgumentsByNumbers.{AreAsked}
use Rattle.type_subtypes.proofs.relation.Subtypes.each_contained.Given as goal

abbrev pub invariant-loop-at : goal.invariant-loop-at
invariant-loop-at l = AreAsked (next_of l.self) l.types l.ones l.others l.at l.questions.items
