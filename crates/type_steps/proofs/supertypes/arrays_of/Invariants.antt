use Rattle.std.proofs.Common.{take}
use Rattle.type_numbers.specs.Numbers.{AllStand, Grows}
use Rattle.type_steps.specs.Arrays.{array_types}
use Rattle.type_steps.proofs.supertypes.arrays_of.Given as goal

-- the arrays so far
abbrev pub invariant-loop-item : goal.invariant-loop-item
invariant-loop-item l = record {
  stand : AllStand l.types l.list (array_types l.initial.types (take l.item-index l.items));
  grows : Grows l.initial.types l.types;
}
