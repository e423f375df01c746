use Rattle.std.proofs.Common.{◌≡◌, take}
use Rattle.processor_claims.proofs.supported.copy_patterns.Given as goal

-- the copies so far
abbrev pub invariant-loop-pattern : goal.invariant-loop-pattern
invariant-loop-pattern l = l.copies ≡ take l.pattern-index l.patterns
