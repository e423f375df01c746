use Rattle.std.proofs.Common.{◌≡◌, ◌+◌, ◌*◌, drop, map}
use Rattle.name_resolve.specs.Finds.{together}
use Rattle.name_resolve.specs.Shown.{finds_of}
use Rattle.name_resolve.proofs.LookSteps.{from_each}
use Rattle.type_resolve.specs.Scopes.{find_in}
use Rattle.expression_names.specs.Fields.{fields_within}
use Rattle.expression_names.proofs.fields.Fields.+levels.Given as goal

-- supertypes are asked with one level less
abbrev pub decreases-fields_at : goal.decreases-fields_at
decreases-fields_at l = l.levels * 4 + 3

abbrev pub decreases-searched : goal.decreases-searched
decreases-searched l = l.levels * 4 + 2

abbrev pub decreases-fields_within : goal.decreases-fields_within
decreases-fields_within l = l.levels * 4 + 1

abbrev pub decreases-together : goal.decreases-together
decreases-together l = l.levels * 4 + 4

-- with the types that are left, all are found, over the same table
abbrev pub invariant-together-loop-at : goal.invariant-together-loop-at
invariant-together-loop-at l =
    (l.self ≡ l.fn.self)
    × (from_each (λ at. fields_within l.fn.self l.levels (find_in l.fn.self at) l.name) (finds_of l.finds) (drop l.at-index l.types)
    ≡ together (map (λ at. fields_within l.fn.self l.levels (find_in l.fn.self at) l.name) l.types))
