use Rattle.std.proofs.Common.{◌≡◌, map, take}
use Rattle.type_layers.specs.Layers.{array_of}
use Rattle.type_relations.proofs.supertypes.arrays_of.Given as goal

-- the arrays so far
abbrev pub invariant-loop-each : goal.invariant-loop-each
invariant-loop-each l = l.list ≡ map array_of (take l.each-index l.items)
