use Rattle.std.proofs.Common.{◌≡◌, take}
use Rattle.child_answers.proofs.answers.copied_mirrors.Given as goal

-- the mirrors so far
abbrev pub invariant-loop-each : goal.invariant-loop-each
invariant-loop-each l = l.copies ≡ take l.each-index l.mirrors
