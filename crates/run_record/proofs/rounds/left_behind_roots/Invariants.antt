use Rattle.std.proofs.Common.{◌≡◌, ◌+◌, drop}
use Rattle.run_record.specs.Shapes.{roots_length}
use Rattle.run_record.proofs.rounds.left_behind_roots.Given as goal

-- what is left, with the shapes of all rounds, is the whole with those to come
abbrev pub invariant-loop-past : goal.invariant-loop-past
invariant-loop-past l = l.left + roots_length l.table l.rounds ≡ l.most + roots_length l.table (drop l.past-index l.rounds)
