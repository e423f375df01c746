use Rattle.std.proofs.Common.{◌≡◌, drop}
use Rattle.std.specs.FinMap as fin
use Rattle.apt_base.specs.Names.{with_names}
use Rattle.beyond_reach.proofs.outside.set_of.Given as goal

-- those that are left decide
abbrev pub invariant-loop-name : goal.invariant-loop-name
invariant-loop-name l = with_names l.set (drop l.name-index l.names) ≡ with_names fin.empty l.names
