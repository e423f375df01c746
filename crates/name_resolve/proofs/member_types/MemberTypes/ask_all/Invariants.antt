use Rattle.std.proofs.Common.{vec_len}
use Rattle.name_resolve.specs.Remembered.{AreQuestions, AreRight, Stays, KeepsFront}
use Rattle.name_resolve.proofs.member_types.MemberTypes.ask_all.Given as goal

-- all stays right, and those that are left are questions about types of the table
abbrev pub invariant-loop-wanted : goal.invariant-loop-wanted
invariant-loop-wanted l = record {
  right : AreRight l.self;
  stays : Stays l.fn.self l.self;
  front : KeepsFront l.fn.self l.self (vec_len l.fn.self.questions);
  left : AreQuestions l.self.table.now l.wanted-iterator.rest.items;
}
