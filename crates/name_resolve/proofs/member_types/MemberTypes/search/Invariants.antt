use Rattle.std.proofs.Common.{vec_len}
use Rattle.name_resolve.specs.Remembered.{AreRight, AreUnsettled, Stays, KeepsFront}
use Rattle.name_resolve.proofs.member_types.MemberTypes.search.Given as goal

-- all stays right, and those that were asked before stay; those that this search asks are not settled
abbrev pub invariant-loop-fewer : goal.invariant-loop-fewer
invariant-loop-fewer l = record {
  right : AreRight l.self;
  stays : Stays l.fn.self l.self;
  unsettled : AreUnsettled l.self l.first;
  front : KeepsFront l.fn.self l.self (vec_len l.fn.self.questions);
}
