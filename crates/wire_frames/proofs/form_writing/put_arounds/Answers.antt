use Rattle.std.proofs.Common.{[], refl}
use Rattle.wire_frames.specs.Spellings.{around_spelled}
use Rattle.wire_frames.proofs.Added.{added_next}
use Rattle.wire_frames.proofs.form_writing.put_arounds.Goals as goal

pub loop-around-preserved : goal.loop-around-preserved
loop-around-preserved c = added_next around_spelled _ _ _ [] _ _ _ _ c.loop-around-test.true refl c.loop-around.invariant c.in_ok-put_around.ensures
