use Rattle.std.proofs.Common.{◌≡◌, take}
use Rattle.std.specs.FinMap as fin
use Rattle.apt_base.specs.Names.{with_names}
use Rattle.apt_filer.proofs.filer.set_of.Given as goal

-- the set has the names so far
abbrev pub invariant-loop-name : goal.invariant-loop-name
invariant-loop-name l = l.set ≡ with_names fin.empty (take l.name-index l.names)
