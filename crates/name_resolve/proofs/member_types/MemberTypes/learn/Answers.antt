use Rattle.std.proofs.Common.{vec_len, ◌∙◌}
use Rattle.name_resolve.proofs.KeptFronts.{cut-back}
use Rattle.name_resolve.proofs.KeptQuestions.{same-right}
use Rattle.name_resolve.proofs.member_types.MemberTypes.learn.Goals as goal

-- what was asked in vain is cut off again
pub returns-in-Err-clause-forgotten : goal.returns-in-Err-clause-forgotten
returns-in-Err-clause-forgotten c =
    let questions = c.args.self.now.questions in
    cut-back c.len-first.result (vec_len questions) questions.items c.search.new.self.questions.items _ c.len-first.ensures questions.ok.0 c.in-Err.ensures.front c.forget_from.ensures.questions

pub returns-in-Err-clause-right : goal.returns-in-Err-clause-right
returns-in-Err-clause-right c =
    let questions = c.args.self.now.questions in
    let stays = c.forget_from.ensures.stays in
    same-right c.args.self.now _ c.requires.right (stays.table ∙ c.in-Err.ensures.table) (stays.settled ∙ c.in-Err.ensures.unsettled)
    (cut-back c.len-first.result (vec_len questions) questions.items c.search.new.self.questions.items _ c.len-first.ensures questions.ok.0 c.in-Err.ensures.front c.forget_from.ensures.questions)
