use Rattle.std.proofs.Common.{◌≡◌, take, map}
use Rattle.type_levels.specs.Levels.{look, step_answer}
use Rattle.type_levels.proofs.level_answers.with_step.Given as goal

abbrev pub invariant-loop-step : goal.invariant-loop-step
invariant-loop-step l = l.level.items ≡ map (step_answer (look l.asked l.answers)) (take l.step-index l.steps)
