use Rattle.std.proofs.Common.{◌≡◌, drop}
use Rattle.decl_elements.specs.Nodes.{down, root}
use Rattle.decl_elements.specs.Shown.{node_of}
use Rattle.decl_elements.proofs.place.place_at.Given as goal

-- what stands at the end of the rest of the path
abbrev pub invariant-loop-at : goal.invariant-loop-at
invariant-loop-at l = down (drop l.at-index l.path) (node_of l.place) ≡ down l.path (root l.unit)
