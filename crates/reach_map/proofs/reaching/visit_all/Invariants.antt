use Rattle.std.proofs.Common.{◌≡◌, drop}
use Rattle.apt_base.specs.Names.{with_names}
use Rattle.reach_map.specs.Reaching.{left_after}
use Rattle.reach_map.proofs.reaching.visit_all.Given as goal

-- what is so far, with what the rest makes of it, is the whole
abbrev pub invariant-loop-name : goal.invariant-loop-name
invariant-loop-name l =
    (with_names l.reached (drop l.name-index l.names) ≡ with_names l.initial.reached l.names)
    × (left_after l.table l.reached l.left.items (drop l.name-index l.names) ≡ left_after l.table l.initial.reached l.initial.left.items l.names)
