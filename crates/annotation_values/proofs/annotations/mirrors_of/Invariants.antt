use Rattle.std.proofs.Common.{◌≡◌, map, take}
use Rattle.annotation_presence.specs.Shown.{carried_in}
use Rattle.annotation_values.specs.ElementValues.{mirror_of}
use Rattle.annotation_values.proofs.annotations.mirrors_of.Given as goal

-- the mirrors so far, over the same table
abbrev pub invariant-loop-each : goal.invariant-loop-each
invariant-loop-each l =
    (l.values ≡ l.fn.values) × (l.mirrors ≡ map (mirror_of l.fn.values) (carried_in (take l.each-index l.list)))
