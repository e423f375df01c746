use Rattle.std.proofs.Common.{◌≡◌, drop, []}
use Rattle.std.specs.List.{flat_map}
use Rattle.type_levels.specs.Levels.{asked_at, with_pairs}
use Rattle.type_levels.proofs.asked.next_level.Given as goal

abbrev pub invariant-loop-step : goal.invariant-loop-step
invariant-loop-step l = with_pairs l.asked (flat_map asked_at (drop l.step-index l.steps)) ≡ with_pairs [] (flat_map asked_at l.steps)
