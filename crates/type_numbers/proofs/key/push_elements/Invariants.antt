use Rattle.std.proofs.Common.{◌≡◌, ◌++◌, take, flat_map}
use Rattle.type_numbers.specs.Keys.{element_key}
use Rattle.type_numbers.proofs.key.push_elements.Given as goal

-- behind the count are the keys of the elements so far
abbrev pub invariant-loop-each : goal.invariant-loop-each
invariant-loop-each l = l.key.items ≡ l.initial.key.items ++ flat_map element_key (take l.each-index l.elements)
