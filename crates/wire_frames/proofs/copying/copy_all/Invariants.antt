use Rattle.std.proofs.Common.{◌≡◌, take}
use Rattle.wire_frames.proofs.copying.copy_all.Given as goal

-- the copies so far are the first of these
abbrev pub invariant-loop-each : goal.invariant-loop-each
invariant-loop-each g l = l.copies ≡ take l.each-index l.parts
