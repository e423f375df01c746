use Rattle.std.proofs.Common.{◌≡◌, ◌++◌, length, take}
use Rattle.std.specs.List.{flat_map}
use Rattle.std.specs.Int.{w32, to_be_bytes}
use Rattle.wire_frames.specs.Outputs.{added}
use Rattle.wire_frames.specs.Spellings.{value_spelled, named_spelled}
use Rattle.wire_frames.proofs.form_writing.+put_value.Given as goal

abbrev pub invariant-put_values-loop-each : goal.invariant-put_values-loop-each
invariant-put_values-loop-each l = l.output ≡ added l.fn.output (to_be_bytes w32 (length l.items) ++ flat_map (value_spelled l.room) (take l.each-index l.items))

abbrev pub invariant-put_named-loop-each : goal.invariant-put_named-loop-each
invariant-put_named-loop-each l = l.output ≡ added l.fn.output (to_be_bytes w32 (length l.values) ++ flat_map (named_spelled l.room) (take l.each-index l.values))
