use Rattle.std.proofs.Common.{◌≡◌, take}
use Rattle.apt_base.proofs.name.copy_names.Given as goal

-- the copies so far are the items so far
abbrev pub invariant-loop-each : goal.invariant-loop-each
invariant-loop-each l = l.copies ≡ take l.each-index l.names
