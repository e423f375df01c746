use Rattle.std.proofs.Common.{◌≡◌}
use Rattle.type_layers.specs.Layers.{layer}
use Rattle.type_numbers.specs.Numbers.{at, Grows}
use Rattle.type_relations.specs.Direct.{direct, is_primitive}
use Rattle.type_steps.specs.Arrays.{arrays}
use Rattle.type_steps.specs.Supertypes.{AllMayStand}
use Rattle.type_steps.proofs.supertypes.direct_with.Given as goal

-- those of the item in the arrays so far
abbrev pub invariant-loop : goal.invariant-loop
invariant-loop l = record {
  stand : AllMayStand l.types l.all (direct l.fn.resolver (arrays l.counter (at l.fn.types l.item)));
  primitive : l.primitive ≡ is_primitive (layer (arrays l.counter (at l.fn.types l.item)));
  grows : Grows l.fn.types l.types;
}
