use Rattle.std.proofs.Common.{◌≡◌, is_some, true, vec_len}
use Rattle.name_resolve.specs.Ways.{node_at}
use Rattle.name_resolve.specs.Shown.{find_of}
use Rattle.annotation_presence.specs.Remembered.{IsScope}
use Rattle.annotation_presence.proofs.meanings.scope_of.Given as goal

-- names mean the same here, where something stands
abbrev pub invariant-loop-here : goal.invariant-loop-here
invariant-loop-here l = IsScope (find_of l.at) l.first (find_of l.here) × (is_some (node_at l.here.unit.now l.here.path.items) ≡ true)

abbrev pub decreases-loop-here : goal.decreases-loop-here
decreases-loop-here l = vec_len l.here.path
