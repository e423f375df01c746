use Rattle.std.proofs.Common.{sym, subst}
use Rattle.type_memory.specs.Known.{Known}
use Rattle.type_memory.specs.Remembered.{IsAnswer}
use Rattle.type_memory.proofs.RememberedAnswers.{right-more, right-same}
use Rattle.type_memory.proofs.subtypes.RememberedSubtypes.remember.Goals as goal

pub invariant_of-self : goal.invariant_of-self
invariant_of-self c =
    right-more c.self.inside.table.now c.self.inside.known c.self.inside.answers c.insert.new.self c.args.key c.args.answer c.self.invariant
    (λ q. c.in_ok-insert.ensures.updates.0 q) (subst (λ (k : Known). IsAnswer k c.args.key c.args.answer) (sym c.self.view_is) c.requires)

pub invariant_of-self-in_err-insert : goal.invariant_of-self-in_err-insert
invariant_of-self-in_err-insert c =
    right-same c.self.inside.table.now c.self.inside.known c.self.inside.answers c.insert.new.self c.in_err-insert.ensures.err c.self.invariant
