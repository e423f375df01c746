use Rattle.std.proofs.Common.{◌≡◌, length, take}
use Rattle.unit_equality.proofs.annotations.+values.Given as goal

-- as many, and the same so far
abbrev pub invariant-are_same_pairs-loop-at : goal.invariant-are_same_pairs-loop-at
invariant-are_same_pairs-loop-at l = record { as_many : length l.ones ≡ length l.others; same_so_far : take l.at l.ones ≡ take l.at l.others }

-- as many, and the same so far
abbrev pub invariant-are_same_values-loop-at : goal.invariant-are_same_values-loop-at
invariant-are_same_values-loop-at l = record { as_many : length l.ones ≡ length l.others; same_so_far : take l.at l.ones ≡ take l.at l.others }
