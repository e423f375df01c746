use Rattle.std.proofs.Common.{take}
use Rattle.type_numbers.specs.Numbers.{AllStand, Grows}
use Rattle.type_numbers.specs.Replaced.{all_replaced}
use Rattle.type_steps.proofs.supertypes.substitute_each.Given as goal

-- the types so far are replaced
abbrev pub invariant-loop-number : goal.invariant-loop-number
invariant-loop-number l = record {
  stand : AllStand l.types l.list (all_replaced l.initial.types l.by (take l.number-index l.numbers));
  grows : Grows l.initial.types l.types;
}
