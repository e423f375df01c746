use Rattle.std.proofs.Common.{◌≡◌, ◌≤◌, Bool, List, length}
use Rattle.processor_claims.specs.Turns.{coming, coming_of, waiting_count}
use Rattle.processor_claims.proofs.turn.Turn.next.Given as goal

-- those who are left decide, whatever is answered
abbrev pub invariant-loop-candidate : goal.invariant-loop-candidate
invariant-loop-candidate l = record {
  decide : (claims : List Bool) → coming_of l.self.unclaimed.items l.self.empty_set l.self.waiting.items claims ≡ coming l.fn.self l.claimed claims;
  fewer : waiting_count l.self ≤ waiting_count l.fn.self;
}

abbrev pub decreases-loop-candidate : goal.decreases-loop-candidate
decreases-loop-candidate l = length l.self.waiting.items
