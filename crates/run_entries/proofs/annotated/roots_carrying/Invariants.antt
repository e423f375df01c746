use Rattle.std.proofs.Common.{◌≡◌, ◌++◌, drop, map, filter}
use Rattle.run_entries.specs.Annotated.{carries_some}
use Rattle.run_entries.specs.Roots.{carried_in}
use Rattle.run_entries.proofs.annotated.roots_carrying.Given as goal

-- the roots so far, and those to come
abbrev pub invariant-loop-root : goal.invariant-loop-root
invariant-loop-root l =
    l.annotated ++ filter carries_some (map (carried_in l.set) (drop l.root-index l.roots)) ≡ filter carries_some (map (carried_in l.set) l.roots)
