use Rattle.std.proofs.Common.{◌≡◌, ◌+◌, ◌*◌, take}
use Rattle.std.specs.List.{FoldsTo, flat_map}
use Rattle.decl_elements.specs.Shown.{node_of}
use Rattle.decl_elements.specs.Walk.{place_of, children_of, steps_below, all_below}
use Rattle.decl_elements.proofs.walking.+walking.Given as goal

abbrev pub decreases-visit_all : goal.decreases-visit_all
decreases-visit_all g l = 3 * steps_below (node_of l.place) + 2

abbrev pub decreases-visit_children : goal.decreases-visit_children
decreases-visit_children g l = 3 * steps_below (node_of l.place) + 1

abbrev pub decreases-visit_child : goal.decreases-visit_child
decreases-visit_child g l = 3 * steps_below (node_of l.place)

-- the children so far are visited, and the path is the same
abbrev pub invariant-visit_children-loop-at : goal.invariant-visit_children-loop-at
invariant-visit_children-loop-at g l =
    FoldsTo g.V.Visitor.visits l.fn.visitor (flat_map all_below (take l.at (children_of (place_of l.fn.path.items (node_of l.fn.place))))) l.visitor
    × (l.path.items ≡ l.fn.path.items)
