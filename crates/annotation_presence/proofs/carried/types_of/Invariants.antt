use Rattle.std.proofs.Common.{◌≡◌, take}
use Rattle.annotation_presence.specs.Carried.{types_of}
use Rattle.annotation_presence.specs.Shown.{carried_in}
use Rattle.annotation_presence.proofs.carried.types_of.Given as goal

-- the annotation interfaces so far
abbrev pub invariant-loop-each : goal.invariant-loop-each
invariant-loop-each l = l.types ≡ types_of (carried_in (take l.each-index l.list))
