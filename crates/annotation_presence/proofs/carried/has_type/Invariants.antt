use Rattle.std.proofs.Common.{◌≡◌, drop}
use Rattle.annotation_presence.specs.Carried.{has_type}
use Rattle.annotation_presence.specs.Shown.{carried_in}
use Rattle.annotation_presence.proofs.carried.has_type.Given as goal

-- those that are left decide
abbrev pub invariant-loop-each : goal.invariant-loop-each
invariant-loop-each l = has_type l.at (carried_in (drop l.each-index l.list)) ≡ has_type l.at (carried_in l.list)
