use Rattle.std.proofs.Common.{◌≡◌}
use Rattle.decl_elements.specs.Shown.{node_of}
use Rattle.name_resolve.specs.Finds.{is_parameter_named, parameters_at}
use Rattle.name_resolve.specs.Shown.{finds_of}
use Rattle.name_resolve.proofs.ChildrenLeft.{from_child}
use Rattle.name_resolve.proofs.children.parameters_at.Given as goal

abbrev pub invariant-loop-number : goal.invariant-loop-number
invariant-loop-number l =
    from_child (is_parameter_named l.name) l.of.part l.of.unit.now (record { path = l.of.path.items; node = node_of l.place }) (finds_of l.finds) l.number
    ≡ parameters_at l.of.part l.of.unit.now l.name (record { path = l.of.path.items; node = node_of l.place })
