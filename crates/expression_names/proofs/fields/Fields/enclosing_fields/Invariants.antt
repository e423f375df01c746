use Rattle.std.proofs.Common.{◌≡◌, is_some, true, vec_len}
use Rattle.name_resolve.specs.Ways.{node_at}
use Rattle.name_resolve.specs.Placed.{IsPlaced}
use Rattle.name_resolve.specs.Shown.{find_of}
use Rattle.expression_names.specs.Fields.{enclosing_fields}
use Rattle.expression_names.proofs.fields.Fields.enclosing_fields.Given as goal

-- what is left to ask finds what all finds, over the same table; what stands here is there and of the table
abbrev pub invariant-loop-here : goal.invariant-loop-here
invariant-loop-here l =
    (l.self ≡ l.fn.self)
    × ((enclosing_fields l.fn.self (find_of l.here) l.name ≡ enclosing_fields l.fn.self (find_of l.at) l.name)
    × ((is_some (node_at l.here.unit.now l.here.path.items) ≡ true) × IsPlaced l.fn.self (find_of l.here)))

abbrev pub decreases-loop-here : goal.decreases-loop-here
decreases-loop-here l = vec_len l.here.path
