use Rattle.std.proofs.Common.{◌≡◌, map, max, drop}
use Rattle.type_mirror.specs.Nesting.{deepest, capped, annotation_nesting}
use Rattle.wire_frames.proofs.limits.deepest_annotation.Given as goal

-- the deepest so far and that of the rest
abbrev pub invariant-loop-each : goal.invariant-loop-each
invariant-loop-each l = max l.depth_so_far (capped (deepest (map annotation_nesting (drop l.each-index l.annotations)))) ≡ capped (deepest (map annotation_nesting l.annotations))
