use Rattle.std.proofs.Common.{length, refl}
use Rattle.std.specs.Int.{w16, w32, to_be_bytes}
use Rattle.wire_frames.proofs.Added.{added_next}
use Rattle.wire_frames.proofs.form_writing.put_path.Goals as goal

pub loop-step-preserved : goal.loop-step-preserved
loop-step-preserved c = added_next (to_be_bytes w16) _ _ _ (to_be_bytes w32 (length c.args.path.now)) _ _ _ 0 c.loop-step-test.true refl c.loop-step.invariant c.in_ok-u16.ensures
