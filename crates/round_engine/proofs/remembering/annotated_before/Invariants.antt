use Rattle.std.proofs.Common.{◌≡◌, ◌++◌, drop}
use Rattle.round_engine.specs.Remembering.{annotated_before}
use Rattle.round_engine.proofs.remembering.annotated_before.Given as goal

-- the roots so far, and those to come
abbrev pub invariant-loop-done : goal.invariant-loop-done
invariant-loop-done l = l.names ++ annotated_before l.number (drop l.done-index l.before) ≡ annotated_before l.number l.before
