use Rattle.std.proofs.Common.{◌≡◌, length, take}
use Rattle.child_answers.proofs.same_question.are_same_names.Given as goal

-- as many, and the same so far
abbrev pub invariant-loop-at : goal.invariant-loop-at
invariant-loop-at l = record { as_many : length l.ones ≡ length l.others; same_so_far : take l.at l.ones ≡ take l.at l.others }
