use Rattle.std.proofs.Common.{◌≡◌, take}
use Rattle.type_relations.specs.Named.{written_types}
use Rattle.type_relations.proofs.parameter_bounds.written_types_with.Given as goal

-- the types so far, over the same table
abbrev pub invariant-loop-each : goal.invariant-loop-each
invariant-loop-each l = (l.list ≡ written_types l.fn.resolver l.at (take l.each-index l.texts)) × (l.resolver ≡ l.fn.resolver)
