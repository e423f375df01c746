use Rattle.child_answers.proofs.FramesOfReplies.{replies-of_frames}
use Rattle.child_answers.proofs.laws.replies_are_of_their_frames.Goals as goal

pub returns : goal.returns
returns c = replies-of_frames
