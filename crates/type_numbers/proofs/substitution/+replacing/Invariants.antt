use Rattle.std.proofs.Common.{◌+◌, ◌*◌, ◌<◌, map, take, drop}
use Rattle.std.specs.List.{AllByRecursion}
use Rattle.type_numbers.specs.Numbers.{AllStand, Grows}
use Rattle.type_numbers.specs.Replaced.{Remembers, replaced_at}
use Rattle.type_numbers.proofs.substitution.+replacing.Given as goal

-- each part has a smaller number
abbrev pub decreases-replaced : goal.decreases-replaced
decreases-replaced l = 4 * l.number + 2

abbrev pub decreases-replaced_node : goal.decreases-replaced_node
decreases-replaced_node l = 4 * l.below + 1

abbrev pub decreases-replaced_optional : goal.decreases-replaced_optional
decreases-replaced_optional l = 4 * l.below

abbrev pub decreases-replaced_each : goal.decreases-replaced_each
decreases-replaced_each l = 4 * l.below

-- the numbers so far are replaced
abbrev pub invariant-replaced_each-loop-number : goal.invariant-replaced_each-loop-number
invariant-replaced_each-loop-number l = record {
  stand : AllStand l.types l.all (map (replaced_at l.initial.types l.by) (take l.number-index l.numbers));
  grows : Grows l.initial.types l.types;
  so_far : Remembers l.types l.by l.done;
  left : AllByRecursion (λ part. part < l.below) (drop l.number-index l.numbers);
}
