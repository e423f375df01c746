use Rattle.std.proofs.Common.{◌≡◌, drop}
use Rattle.decl_elements.specs.Shown.{node_of}
use Rattle.unit_locations.specs.Lines.{line_down}
use Rattle.unit_locations.specs.LinesShown.{lines_of}
use Rattle.unit_locations.proofs.lines.line_below.Given as goal

-- what the rest of the path comes to
abbrev pub invariant-loop-at : goal.invariant-loop-at
invariant-loop-at l = line_down (drop l.at-index l.path) (node_of l.place) (lines_of l.here) ≡ line_down l.path (node_of l.from) l.lines
