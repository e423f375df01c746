use Rattle.std.proofs.Common.{◌≡◌, ◌+◌, ◌*◌, ◌<◌, map, take, drop}
use Rattle.std.specs.List.{AllByRecursion}
use Rattle.type_numbers.specs.Numbers.{at}
use Rattle.type_numbers.proofs.types.Types.+building.Given as goal

-- each part has a smaller number
abbrev pub decreases-built : goal.decreases-built
decreases-built l = 4 * l.number + 2

abbrev pub decreases-built_declared : goal.decreases-built_declared
decreases-built_declared l = 4 * l.below + 1

abbrev pub decreases-built_executable : goal.decreases-built_executable
decreases-built_executable l = 4 * l.below + 1

abbrev pub decreases-built_form : goal.decreases-built_form
decreases-built_form l = 4 * l.below

abbrev pub decreases-built_each : goal.decreases-built_each
decreases-built_each l = 4 * l.below

abbrev pub decreases-built_optional : goal.decreases-built_optional
decreases-built_optional l = 4 * l.below

-- the mirrors so far
abbrev pub invariant-built_each-loop-number : goal.invariant-built_each-loop-number
invariant-built_each-loop-number l = record {
  so_far : l.mirrors ≡ map (at l.self) (take l.number-index l.numbers);
  left : AllByRecursion (λ part. part < l.below) (drop l.number-index l.numbers);
}
