use Rattle.std.proofs.Common.{◌≡◌, map, max, drop}
use Rattle.type_mirror.specs.Nesting.{deepest, capped, nesting}
use Rattle.type_mirror.proofs.nesting.+nesting.Given as goal

-- the deepest so far and that of the rest
abbrev pub invariant-deepest_mirror-loop-each : goal.invariant-deepest_mirror-loop-each
invariant-deepest_mirror-loop-each l = max l.depth_so_far (capped (deepest (map nesting (drop l.each-index l.mirrors)))) ≡ capped (deepest (map nesting l.mirrors))
