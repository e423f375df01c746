use Rattle.std.proofs.Common.{◌≡◌}
use Rattle.type_relations.specs.Elements.{first_children}
use Rattle.type_relations.proofs.places.first_children.Given as goal

-- the children so far
abbrev pub invariant-loop-number : goal.invariant-loop-number
invariant-loop-number l = l.list ≡ first_children l.at l.number
