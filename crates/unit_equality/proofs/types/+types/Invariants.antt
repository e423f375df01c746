use Rattle.std.proofs.Common.{◌≡◌, length, take}
use Rattle.unit_equality.proofs.types.+types.Given as goal

-- as many, and the same so far
abbrev pub invariant-are_same_parts-loop-at : goal.invariant-are_same_parts-loop-at
invariant-are_same_parts-loop-at l = record { as_many : length l.ones ≡ length l.others; same_so_far : take l.at l.ones ≡ take l.at l.others }

-- as many, and the same so far
abbrev pub invariant-are_same_types-loop-at : goal.invariant-are_same_types-loop-at
invariant-are_same_types-loop-at l = record { as_many : length l.ones ≡ length l.others; same_so_far : take l.at l.ones ≡ take l.at l.others }
