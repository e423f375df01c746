use Rattle.std.proofs.Common.{◌*◌, ◌+◌}
use Rattle.type_numbers.specs.Numbers.{Grows}
use Rattle.type_steps.proofs.ErasuresByLayers.{AreErased}
use Rattle.type_steps.proofs.erasing.+erasing.Given as goal

-- each part has a smaller number
abbrev pub decreases-erasure_of : goal.decreases-erasure_of
decreases-erasure_of l = 3 * l.number + 2

abbrev pub decreases-of_item : goal.decreases-of_item
decreases-of_item l = 3 * l.number + 1

abbrev pub decreases-erasures : goal.decreases-erasures
decreases-erasures l = 3 * l.below

-- those so far with those of the rest are all
abbrev pub invariant-erasures-loop-part : goal.invariant-erasures-loop-part
invariant-erasures-loop-part l = record {
  erased : AreErased l.table l.initial.types l.types l.parts l.list l.part-index;
  grows : Grows l.initial.types l.types;
}
