use Rattle.std.proofs.Common.{◌+◌, ◌*◌, ◌≤◌, vec_len}
use Rattle.name_resolve.specs.Remembered.{AreRight, AreUnsettled, Stays, KeepsFront}
use Rattle.name_resolve.proofs.member_types.MemberTypes.+answering.Given as goal

-- what a look-up wants gets its answers with fewer levels
abbrev pub decreases-answer_from : goal.decreases-answer_from
decreases-answer_from l = l.levels * 3 + 2

abbrev pub decreases-answer_next : goal.decreases-answer_next
decreases-answer_next l = l.levels * 3 + 1

abbrev pub decreases-ask_below : goal.decreases-ask_below
decreases-ask_below l = l.levels * 3

-- all stays right, those from the place on are not settled, and those in front of the first place stay
abbrev pub invariant-answer_from-loop : goal.invariant-answer_from-loop
invariant-answer_from-loop l = record {
  right : AreRight l.self;
  stays : Stays l.fn.self l.self;
  unsettled : AreUnsettled l.self l.place;
  behind : l.fn.first ≤ l.place;
  front : KeepsFront l.fn.self l.self l.fn.first;
}

abbrev pub invariant-ask_below-loop-fewer : goal.invariant-ask_below-loop-fewer
invariant-ask_below-loop-fewer l = record {
  right : AreRight l.self;
  stays : Stays l.fn.self l.self;
  unsettled : AreUnsettled l.self l.place;
  front : KeepsFront l.fn.self l.self (vec_len l.fn.self.questions);
}
