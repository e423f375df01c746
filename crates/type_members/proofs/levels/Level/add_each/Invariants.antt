use Rattle.std.proofs.Common.{◌≡◌, drop}
use Rattle.type_members.specs.Once.{with_each}
use Rattle.type_members.proofs.levels.Level.add_each.Given as goal

-- with the rest it comes to the whole
abbrev pub invariant-loop-number : goal.invariant-loop-number
invariant-loop-number l = with_each l.self (drop l.number-index l.numbers) ≡ with_each l.fn.self l.numbers
