use Rattle.std.proofs.Common.{◌≡◌, ◌++◌, drop, map}
use Rattle.run_entries.specs.Outputs.{root_name}
use Rattle.run_entries.proofs.recorded_entries.root_names.Given as goal

-- the names so far, and those to come
abbrev pub invariant-loop-root : goal.invariant-loop-root
invariant-loop-root l = l.names ++ map root_name (drop l.root-index l.roots) ≡ map root_name l.roots
