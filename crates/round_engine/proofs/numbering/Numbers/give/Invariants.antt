use Rattle.std.proofs.Common.{length}
use Rattle.round_engine.proofs.NumberingLemmas.{Passes}
use Rattle.round_engine.proofs.numbering.Numbers.give.Given as goal

-- the numbers that were passed are taken
abbrev pub invariant-loop-self : goal.invariant-loop-self
invariant-loop-self l = Passes l.initial.self.taken.now l.initial.self.next l.self.taken.now l.self.next

abbrev pub decreases-loop-self : goal.decreases-loop-self
decreases-loop-self l = length l.self.taken.now
