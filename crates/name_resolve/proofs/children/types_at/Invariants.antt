use Rattle.std.proofs.Common.{◌≡◌}
use Rattle.decl_elements.specs.Shown.{node_of}
use Rattle.name_resolve.specs.Finds.{is_type_named, types_at}
use Rattle.name_resolve.specs.Shown.{finds_of}
use Rattle.name_resolve.proofs.ChildrenLeft.{from_child}
use Rattle.name_resolve.proofs.children.types_at.Given as goal

abbrev pub invariant-loop-at : goal.invariant-loop-at
invariant-loop-at l =
    from_child (is_type_named l.name) l.of.part l.of.unit.now (record { path = l.of.path.items; node = node_of l.place }) (finds_of l.finds) l.at
    ≡ types_at l.of.part l.of.unit.now l.name (record { path = l.of.path.items; node = node_of l.place })
