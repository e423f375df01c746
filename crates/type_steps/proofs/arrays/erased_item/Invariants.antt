use Rattle.std.proofs.Common.{◌≤◌, ◌+◌}
use Rattle.type_numbers.specs.Numbers.{at, IsKnown}
use Rattle.type_steps.specs.Arrays.{ErasesIn}
use Rattle.type_steps.proofs.arrays.erased_item.Given as goal

-- the erasure is in this many arrays so far
abbrev pub invariant-loop-inner : goal.invariant-loop-inner
invariant-loop-inner l = record {
  known : IsKnown l.types l.item;
  below : l.item + l.around ≤ l.number;
  whole : ErasesIn (at l.types l.number) l.around (at l.types l.item);
}

abbrev pub decreases-loop-inner : goal.decreases-loop-inner
decreases-loop-inner l = l.item
