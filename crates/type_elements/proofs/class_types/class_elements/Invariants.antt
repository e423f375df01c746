use Rattle.std.proofs.Common.{◌≡◌, take}
use Rattle.type_elements.specs.MemberElements.{class_elements}
use Rattle.type_elements.proofs.class_types.class_elements.Given as goal

-- the elements so far
abbrev pub invariant-loop-each : goal.invariant-loop-each
invariant-loop-each l = l.list ≡ class_elements (take l.each-index l.types)
