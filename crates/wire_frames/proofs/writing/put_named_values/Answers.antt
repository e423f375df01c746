use Rattle.std.proofs.Common.{length}
use Rattle.std.specs.Int.{w32, to_be_bytes}
use Rattle.wire_frames.specs.Spellings.{value_with_name_spelled}
use Rattle.wire_frames.proofs.Added.{added_next}
use Rattle.wire_frames.proofs.writing.put_named_values.Goals as goal

pub loop-each-preserved : goal.loop-each-preserved
loop-each-preserved c = added_next (value_with_name_spelled 256) _ _ _ (to_be_bytes w32 (length c.args.values.now)) _ _ c.each-item.result c.each-item.result c.loop-each-test.true c.each-item.is c.loop-each.invariant c.in_ok-put_named_value.ensures
