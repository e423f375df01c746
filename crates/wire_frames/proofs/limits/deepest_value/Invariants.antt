use Rattle.std.proofs.Common.{◌≡◌, map, max, drop}
use Rattle.type_mirror.specs.Nesting.{deepest, capped}
use Rattle.wire_frames.specs.Limits.{nesting_of_named}
use Rattle.wire_frames.proofs.limits.deepest_value.Given as goal

-- the deepest so far and that of the rest
abbrev pub invariant-loop-each : goal.invariant-loop-each
invariant-loop-each l = max l.depth_so_far (capped (deepest (map nesting_of_named (drop l.each-index l.values)))) ≡ capped (deepest (map nesting_of_named l.values))
