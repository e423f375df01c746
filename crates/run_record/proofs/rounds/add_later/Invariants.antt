use Rattle.std.proofs.Common.{◌≡◌, ◌++◌, drop, map}
use Rattle.run_record.specs.Shapes.{later_round}
use Rattle.run_record.proofs.rounds.add_later.Given as goal

-- the rounds so far, and those to come
abbrev pub invariant-loop-past : goal.invariant-loop-past
invariant-loop-past l = l.rounds ++ map (later_round l.table) (drop l.past-index l.later) ≡ l.fn.rounds ++ map (later_round l.table) l.later
