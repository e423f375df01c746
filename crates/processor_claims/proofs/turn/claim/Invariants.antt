use Rattle.std.proofs.Common.{◌≡◌, drop}
use Rattle.processor_claims.specs.Turns.{claimed_at}
use Rattle.processor_claims.proofs.turn.claim.Given as goal

-- what is left decides
abbrev pub invariant-loop-at : goal.invariant-loop-at
invariant-loop-at l = claimed_at (drop l.at-index l.positions) l.unclaimed.items ≡ claimed_at l.positions l.fn.unclaimed.items
