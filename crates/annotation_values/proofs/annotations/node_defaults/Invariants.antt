use Rattle.std.proofs.Common.{◌≡◌}
use Rattle.decl_elements.specs.Shown.{node_of}
use Rattle.name_resolve.specs.Shown.{find_of}
use Rattle.annotation_values.specs.ElementValues.{node_defaults}
use Rattle.annotation_values.proofs.DefaultLists.{defaults_from}
use Rattle.annotation_values.proofs.annotations.node_defaults.Given as goal

-- those so far with those that are left are all, over the same table
abbrev pub invariant-loop-number : goal.invariant-loop-number
invariant-loop-number l =
    (l.values ≡ l.fn.values)
    × (defaults_from l.fn.values (find_of l.of) (node_of l.place) l.list l.number
    ≡ node_defaults l.fn.values (find_of l.of) (node_of l.place))
