use Rattle.std.proofs.Common.{length, refl}
use Rattle.std.proofs.lemmas.Option.{slice_get_read}
use Rattle.name_resolve.proofs.KeptFronts.{set-front}
use Rattle.name_resolve.proofs.KeptQuestions.{answered-right, unanswered-right}
use Rattle.name_resolve.proofs.member_types.MemberTypes.add_answer.Goals as goal

pub returns-in_err-push-clause-right : goal.returns-in_err-push-clause-right
returns-in_err-push-clause-right c =
    let questions = c.args.self.now.questions.items in
    let question = c.index_mut.result.now in
    let stands = slice_get_read questions (length questions) c.args.place question refl c.requires.known c.index_mut.ensures.value in
    unanswered-right c.args.self.now _ c.args.place question (record { of = question.of; name = question.name; answers = c.push.new.self }) c.requires.right refl refl stands refl refl refl
    c.in_err-push.ensures.items

pub returns-clause-right : goal.returns-clause-right
returns-clause-right c =
    let questions = c.args.self.now.questions.items in
    let question = c.index_mut.result.now in
    let stands = slice_get_read questions (length questions) c.args.place question refl c.requires.known c.index_mut.ensures.value in
    answered-right c.args.self.now _ c.args.place question (record { of = question.of; name = question.name; answers = c.push.new.self }) c.args.finds c.requires.right refl refl stands
    c.requires.unsettled refl refl refl c.in_ok-push.ensures.items c.requires.next

pub returns-in_err-push-clause-front : goal.returns-in_err-push-clause-front
returns-in_err-push-clause-front c =
    let question = c.index_mut.result.now in
    set-front c.args.place c.args.self.now.questions.items _ (record { of = question.of; name = question.name; answers = c.push.new.self }) refl

pub returns-clause-front : goal.returns-clause-front
returns-clause-front c =
    let question = c.index_mut.result.now in
    set-front c.args.place c.args.self.now.questions.items _ (record { of = question.of; name = question.name; answers = c.push.new.self }) refl
