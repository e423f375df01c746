use Rattle.std.proofs.Common.{◌≡◌}
use Rattle.annotation_values.proofs.values.Values.learn_annotation.Given as goal

abbrev pub invariant-loop-pair : goal.invariant-loop-pair
invariant-loop-pair l = l.self ≡ l.fn.self
