use Rattle.child_answers.proofs.AgreeingAnswers.{answers-agree}
use Rattle.child_answers.proofs.laws.replies_agree_with_calls.Goals as goal

pub returns : goal.returns
returns c = answers-agree
