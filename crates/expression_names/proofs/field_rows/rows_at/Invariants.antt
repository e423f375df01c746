use Rattle.std.proofs.Common.{◌≡◌, ℕ, List}
use Rattle.decl_elements.specs.Shown.{node_of}
use Rattle.decl_elements.specs.Walk.{place_of}
use Rattle.name_resolve.specs.Finds.{children_where}
use Rattle.name_resolve.specs.Shown.{find_of}
use Rattle.name_resolve.proofs.ChildrenLeft.{from_child}
use Rattle.expression_names.specs.Fields.{is_field_named}
use Rattle.expression_names.specs.FieldsByName.{found_by}
use Rattle.expression_names.proofs.field_rows.rows_at.Given as goal

-- of each name all are found with the children that are left
abbrev pub invariant-loop-number : goal.invariant-loop-number
invariant-loop-number l =
    (find_of l.rows.of ≡ find_of l.of)
    × ((q : List ℕ) → from_child (is_field_named q) l.of.part l.of.unit.now (place_of l.of.path.items (node_of l.place)) (found_by l.rows q) l.number
    ≡ children_where (is_field_named q) l.of.part l.of.unit.now (place_of l.of.path.items (node_of l.place)))
