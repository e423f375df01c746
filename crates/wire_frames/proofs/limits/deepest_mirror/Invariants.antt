use Rattle.std.proofs.Common.{◌≡◌, map, max, drop}
use Rattle.type_mirror.specs.Nesting.{deepest, capped, nesting}
use Rattle.wire_frames.proofs.limits.deepest_mirror.Given as goal

-- the deepest so far and that of the rest
abbrev pub invariant-loop-each : goal.invariant-loop-each
invariant-loop-each l = max l.depth_so_far (capped (deepest (map nesting (drop l.each-index l.mirrors)))) ≡ capped (deepest (map nesting l.mirrors))
