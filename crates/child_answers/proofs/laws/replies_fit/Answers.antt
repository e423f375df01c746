use Rattle.child_answers.proofs.FramesOfReplies.{all-fit}
use Rattle.child_answers.proofs.laws.replies_fit.Goals as goal

pub returns : goal.returns
returns c = all-fit
