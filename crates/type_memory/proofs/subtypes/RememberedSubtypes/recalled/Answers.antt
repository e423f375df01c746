use Rattle.std.proofs.Common.{sym, subst}
use Rattle.type_memory.specs.Known.{Known}
use Rattle.type_memory.specs.Remembered.{IsAnswer}
use Rattle.type_memory.proofs.RememberedAnswers.{right-found}
use Rattle.type_memory.proofs.subtypes.RememberedSubtypes.recalled.Goals as goal

pub returns-in-Some : goal.returns-in-Some
returns-in-Some c =
    subst (λ (k : Known). IsAnswer k c.args.key c.in-Some.answer.now) c.self.view_is
    (right-found c.self.inside.table.now c.self.inside.known c.self.inside.answers c.args.key c.in-Some.answer.now c.self.invariant (sym c.in-Some.ensures.value))
