use Rattle.std.proofs.Common.{◌≡◌, drop, string_bytes}
use Rattle.decl_elements.specs.Canonical.{canonical_down}
use Rattle.decl_elements.specs.Shown.{node_of}
use Rattle.decl_elements.proofs.canonical.canonical_below.Given as goal

-- what the rest of the path comes to
abbrev pub invariant-loop-at : goal.invariant-loop-at
invariant-loop-at l = canonical_down (string_bytes l.text) (drop l.at-index l.path) (node_of l.place) ≡ canonical_down l.name l.path (node_of l.from)
