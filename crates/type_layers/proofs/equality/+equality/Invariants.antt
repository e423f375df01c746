use Rattle.std.proofs.Common.{◌≡◌, length, take}
use Rattle.type_layers.proofs.equality.+equality.Given as goal

-- as many, and the same so far
abbrev pub invariant-are_equal-loop-at : goal.invariant-are_equal-loop-at
invariant-are_equal-loop-at l = record { as_many : length l.ones ≡ length l.others; same_so_far : take l.at l.ones ≡ take l.at l.others }
