use Rattle.std.proofs.Common.{◌≡◌, ◌++◌, drop, map}
use Rattle.round_engine.specs.Remembering.{root_with}
use Rattle.round_engine.proofs.remembering.roots_with.Given as goal

-- the roots so far, and those to come
abbrev pub invariant-loop-root : goal.invariant-loop-root
invariant-loop-root l = l.list ++ map (root_with l.table) (drop l.root-index l.roots) ≡ map (root_with l.table) l.roots
