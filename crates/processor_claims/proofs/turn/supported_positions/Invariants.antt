use Rattle.std.proofs.Common.{◌≡◌, ◌++◌, drop}
use Rattle.processor_claims.specs.Patterns.{supports}
use Rattle.processor_claims.specs.Asked.{positions}
use Rattle.processor_claims.proofs.turn.supported_positions.Given as goal

-- the positions so far, and those to come
abbrev pub invariant-loop-at : goal.invariant-loop-at
invariant-loop-at l = l.list ++ positions (supports l.patterns) l.at (drop l.at l.names) ≡ positions (supports l.patterns) 0 l.names
