use Rattle.std.proofs.Common.{◌≡◌, drop}
use Rattle.type_levels.specs.Levels.{asked_by, with_pairs}
use Rattle.type_levels.proofs.asked.Asked.add_questions.Given as goal

abbrev pub invariant-loop-question : goal.invariant-loop-question
invariant-loop-question l = with_pairs l.self (asked_by (drop l.question-index l.questions)) ≡ with_pairs l.fn.self (asked_by l.questions)
