use Rattle.std.proofs.Common.{◌≡◌, take}
use Rattle.type_elements.specs.TypeOf.{own_arguments}
use Rattle.type_elements.proofs.element_types.variables.Given as goal

-- the variables so far
abbrev pub invariant-loop-each : goal.invariant-loop-each
invariant-loop-each l = l.list ≡ own_arguments (take l.each-index l.parameters)
