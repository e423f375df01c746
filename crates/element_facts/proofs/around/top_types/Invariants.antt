use Rattle.std.proofs.Common.{◌≡◌, map, take}
use Rattle.element_facts.specs.ElementFacts.{top_type}
use Rattle.element_facts.proofs.around.top_types.Given as goal

-- the types so far
abbrev pub invariant-loop-name : goal.invariant-loop-name
invariant-loop-name l = l.list ≡ map top_type (take l.name-index l.names)
