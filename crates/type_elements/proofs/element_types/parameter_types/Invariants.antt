use Rattle.std.proofs.Common.{◌≡◌, take}
use Rattle.type_elements.specs.TypeOf.{parameter_types}
use Rattle.type_elements.proofs.element_types.parameter_types.Given as goal

-- the types so far, over the same table
abbrev pub invariant-loop-each : goal.invariant-loop-each
invariant-loop-each l = (l.list ≡ parameter_types l.fn.resolver l.at (take l.each-index l.parameters)) × (l.resolver ≡ l.fn.resolver)
