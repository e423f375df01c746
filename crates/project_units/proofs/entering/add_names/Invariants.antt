use Rattle.std.proofs.Common.{◌≡◌, drop}
use Rattle.apt_base.specs.Names.{with_names}
use Rattle.project_units.proofs.entering.add_names.Given as goal

-- the names that are left decide
abbrev pub invariant-loop-name : goal.invariant-loop-name
invariant-loop-name l = with_names l.roots (drop l.name-index l.names) ≡ with_names l.fn.roots l.names
