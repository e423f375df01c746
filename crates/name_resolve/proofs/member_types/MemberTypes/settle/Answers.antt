use Rattle.std.proofs.Common.{refl, arith}
use Rattle.name_resolve.proofs.SettledQuestions.{settled-right}
use Rattle.name_resolve.proofs.member_types.MemberTypes.settle.Goals as goal

pub returns-clause-right : goal.returns-clause-right
returns-clause-right c =
    settled-right c.args.self.now c.requires.right c.args.fewer c.args.levels (omega (arith, c.requires.next)) (c.if-not-are_steady.ensures refl) _ refl refl
    (omega (arith, c.len-count.ensures, c.args.self.now.questions.ok.0)) refl
