use Rattle.std.proofs.Common.{length}
use Rattle.std.specs.Int.{w32, to_be_bytes}
use Rattle.apt_base.specs.Fields.{bytes_form}
use Rattle.wire_frames.proofs.Added.{added_next}
use Rattle.wire_frames.proofs.form_writing.put_texts.Goals as goal

pub loop-text-preserved : goal.loop-text-preserved
loop-text-preserved c = added_next bytes_form _ _ _ (to_be_bytes w32 (length c.args.texts.now)) _ _ c.text-item.result c.text-item.result c.loop-text-test.true c.text-item.is c.loop-text.invariant c.in_ok-text.ensures
