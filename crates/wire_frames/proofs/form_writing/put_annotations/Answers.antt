use Rattle.std.proofs.Common.{length}
use Rattle.std.specs.Int.{w32, to_be_bytes}
use Rattle.wire_frames.specs.Spellings.{annotation_spelled}
use Rattle.wire_frames.proofs.Added.{added_next}
use Rattle.wire_frames.proofs.form_writing.put_annotations.Goals as goal

pub loop-each-preserved : goal.loop-each-preserved
loop-each-preserved c = added_next (annotation_spelled c.args.room) _ _ _ (to_be_bytes w32 (length c.args.annotations.now)) _ _ c.each-item.result c.each-item.result c.loop-each-test.true c.each-item.is c.loop-each.invariant c.in_ok-put_annotation.ensures
