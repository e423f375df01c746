use Rattle.std.proofs.Common.{◌≡◌, drop, map}
use Rattle.std.specs.FinMap as fin
use Rattle.apt_base.specs.Names.{with_names}
use Rattle.run_entries.specs.Outputs.{root_name}
use Rattle.run_entries.proofs.parts.set_of_roots.Given as goal

-- those that are left decide
abbrev pub invariant-loop-root : goal.invariant-loop-root
invariant-loop-root l = with_names l.set (map root_name (drop l.root-index l.roots)) ≡ with_names fin.empty (map root_name l.roots)
