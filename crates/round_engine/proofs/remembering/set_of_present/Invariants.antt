use Rattle.std.proofs.Common.{◌≡◌, drop}
use Rattle.std.specs.FinMap as fin
use Rattle.round_engine.specs.Remembering.{with_present}
use Rattle.round_engine.proofs.remembering.set_of_present.Given as goal

-- the names so far, with those on the roots to come
abbrev pub invariant-loop-root : goal.invariant-loop-root
invariant-loop-root l = with_present l.names (drop l.root-index l.roots) ≡ with_present fin.empty l.roots
