use Rattle.std.proofs.Common.{◌≡◌}
use Rattle.decl_elements.specs.Shown.{node_of}
use Rattle.decl_elements.specs.Walk.{place_of}
use Rattle.name_resolve.specs.Finds.{children_where}
use Rattle.name_resolve.specs.Shown.{finds_of}
use Rattle.name_resolve.proofs.ChildrenLeft.{from_child}
use Rattle.expression_names.specs.Fields.{is_field_named}
use Rattle.expression_names.proofs.declared.fields_at.Given as goal

-- with the children that are left, all are found
abbrev pub invariant-loop-number : goal.invariant-loop-number
invariant-loop-number l =
    from_child (is_field_named l.name) l.of.part l.of.unit.now (place_of l.of.path.items (node_of l.place)) (finds_of l.finds) l.number
    ≡ children_where (is_field_named l.name) l.of.part l.of.unit.now (place_of l.of.path.items (node_of l.place))
