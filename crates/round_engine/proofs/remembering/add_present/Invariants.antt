use Rattle.std.proofs.Common.{◌≡◌, drop}
use Rattle.apt_base.specs.Names.{with_names}
use Rattle.round_engine.proofs.remembering.add_present.Given as goal

-- the names so far, with those to come
abbrev pub invariant-loop-name : goal.invariant-loop-name
invariant-loop-name l = with_names l.names (drop l.name-index l.present) ≡ with_names l.fn.names l.present
