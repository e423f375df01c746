use Rattle.std.proofs.Common.{vec_len, take, refl, ap, arith}
use Rattle.name_resolve.proofs.KeptFronts.{pushed-front}
use Rattle.name_resolve.proofs.KeptQuestions.{asked-right, same-right}
use Rattle.name_resolve.proofs.member_types.MemberTypes.ask.Goals as goal

pub returns-in_err-push-clause-right : goal.returns-in_err-push-clause-right
returns-in_err-push-clause-right c = same-right c.args.self.now _ c.requires.right refl refl c.in_err-push.ensures.items

pub returns-in_err-push-clause-front : goal.returns-in_err-push-clause-front
returns-in_err-push-clause-front c = ap (take (vec_len c.args.self.now.questions)) c.in_err-push.ensures.items

pub returns-in_err-insert-clause-right : goal.returns-in_err-insert-clause-right
returns-in_err-insert-clause-right c =
    asked-right c.args.self.now _ (record { of = c.args.wanted.of; name = c.args.wanted.name; answers = c.in_ok-answers.answers }) c.requires.right refl refl c.in_ok-push.ensures.items c.requires.wanted.placed
    c.requires.wanted.none c.in_ok-answers.ensures.items

pub returns-in_err-insert-clause-front : goal.returns-in_err-insert-clause-front
returns-in_err-insert-clause-front c =
    let memory = c.args.self.now in
    pushed-front (vec_len memory.questions) memory.questions.items _ (record { of = c.args.wanted.of; name = c.args.wanted.name; answers = c.in_ok-answers.answers }) (omega (arith, memory.questions.ok.0)) c.in_ok-push.ensures.items

pub returns-clause-right : goal.returns-clause-right
returns-clause-right c =
    asked-right c.args.self.now _ (record { of = c.args.wanted.of; name = c.args.wanted.name; answers = c.in_ok-answers.answers }) c.requires.right refl refl c.in_ok-push.ensures.items c.requires.wanted.placed
    c.requires.wanted.none c.in_ok-answers.ensures.items

pub returns-clause-front : goal.returns-clause-front
returns-clause-front c =
    let memory = c.args.self.now in
    pushed-front (vec_len memory.questions) memory.questions.items _ (record { of = c.args.wanted.of; name = c.args.wanted.name; answers = c.in_ok-answers.answers }) (omega (arith, memory.questions.ok.0)) c.in_ok-push.ensures.items
