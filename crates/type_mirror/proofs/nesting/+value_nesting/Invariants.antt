use Rattle.std.proofs.Common.{◌≡◌, map, max, drop}
use Rattle.type_mirror.specs.Nesting.{deepest, capped, value_nesting, named_nesting}
use Rattle.type_mirror.proofs.nesting.+value_nesting.Given as goal

-- the deepest so far and that of the rest
abbrev pub invariant-deepest_value-loop-each : goal.invariant-deepest_value-loop-each
invariant-deepest_value-loop-each l = max l.depth_so_far (capped (deepest (map value_nesting (drop l.each-index l.values)))) ≡ capped (deepest (map value_nesting l.values))

abbrev pub invariant-deepest_named-loop-each : goal.invariant-deepest_named-loop-each
invariant-deepest_named-loop-each l = max l.depth_so_far (capped (deepest (map named_nesting (drop l.each-index l.values)))) ≡ capped (deepest (map named_nesting l.values))
