use Rattle.std.proofs.Common.{◌*◌, ◌+◌}
use Rattle.type_relations.proofs.erasing.+bounds.Given as goal

-- a bound is asked with a step less
abbrev pub decreases-variable_erasure : goal.decreases-variable_erasure
decreases-variable_erasure l = 3 * l.steps

abbrev pub decreases-simple_erasure : goal.decreases-simple_erasure
decreases-simple_erasure l = 3 * l.steps + 1

abbrev pub decreases-bound_erasure : goal.decreases-bound_erasure
decreases-bound_erasure l = 3 * l.steps + 2
