use Rattle.std.proofs.Common.{◌≡◌, drop, length, ◌-◌}
use Rattle.type_levels.specs.Answers.{all}
use Rattle.type_levels.specs.Levels.{look, question_answer}
use Rattle.type_levels.proofs.level_answers.of_arguments.Given as goal

abbrev pub invariant-loop-at : goal.invariant-loop-at
invariant-loop-at l = l.answer ≡ all (question_answer (look l.asked l.answers)) (drop (length l.questions - l.at) l.questions)
