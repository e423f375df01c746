use Rattle.std.proofs.Common.{◌≡◌, ◌++◌, drop, map}
use Rattle.run_entries.specs.Outputs.{root_name}
use Rattle.round_engine.proofs.remembering.add_names.Given as goal

-- the names so far, and those to come
abbrev pub invariant-loop-root : goal.invariant-loop-root
invariant-loop-root l = l.names ++ map root_name (drop l.root-index l.roots) ≡ l.fn.names ++ map root_name l.roots
