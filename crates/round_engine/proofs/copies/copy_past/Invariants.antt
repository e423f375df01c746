use Rattle.std.proofs.Common.{◌≡◌, take}
use Rattle.round_engine.proofs.copies.copy_past.Given as goal

-- the copies so far are what came so far
abbrev pub invariant-loop-each : goal.invariant-loop-each
invariant-loop-each l = l.copies ≡ take l.each-index l.past
