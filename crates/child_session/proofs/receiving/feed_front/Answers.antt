use Rattle.child_session.proofs.receiving.feed_front.Goals as goal

pub returns : goal.returns
returns c = record { taken = c.feed_slice-progress.result.taken; comes = c.feed_slice-progress.ensures.comes }
