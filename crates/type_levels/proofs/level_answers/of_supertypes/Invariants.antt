use Rattle.std.proofs.Common.{◌≡◌, drop, length, ◌-◌}
use Rattle.type_levels.specs.Answers.{any}
use Rattle.type_levels.specs.Levels.{look, below_type}
use Rattle.type_levels.proofs.level_answers.of_supertypes.Given as goal

abbrev pub invariant-loop-at : goal.invariant-loop-at
invariant-loop-at l = l.answer ≡ any (λ sub. look l.asked l.answers (below_type l.sup sub)) (drop (length l.types - l.at) l.types)
