use Rattle.std.proofs.Common.{◌≡◌, take, map}
use Rattle.type_levels.specs.Levels.{last_answer}
use Rattle.type_levels.proofs.level_answers.without_step.Given as goal

abbrev pub invariant-loop-step : goal.invariant-loop-step
invariant-loop-step l = l.level.items ≡ map (λ step. last_answer step.next) (take l.step-index l.steps)
