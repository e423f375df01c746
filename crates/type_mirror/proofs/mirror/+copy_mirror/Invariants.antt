use Rattle.std.proofs.Common.{◌≡◌, take}
use Rattle.type_mirror.proofs.mirror.+copy_mirror.Given as goal

-- the copies so far are the mirrors so far
abbrev pub invariant-copy_mirrors-loop-each : goal.invariant-copy_mirrors-loop-each
invariant-copy_mirrors-loop-each l = l.copies ≡ take l.each-index l.mirrors
