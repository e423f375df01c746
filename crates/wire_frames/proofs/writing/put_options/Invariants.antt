use Rattle.std.proofs.Common.{◌≡◌, ◌++◌, length, take}
use Rattle.std.specs.List.{flat_map}
use Rattle.std.specs.Int.{w32, to_be_bytes}
use Rattle.wire_frames.specs.Outputs.{added}
use Rattle.wire_frames.specs.Spellings.{option_spelled}
use Rattle.wire_frames.proofs.writing.put_options.Given as goal

abbrev pub invariant-loop-each : goal.invariant-loop-each
invariant-loop-each l = l.output ≡ added l.fn.output (to_be_bytes w32 (length l.options) ++ flat_map option_spelled (take l.each-index l.options))
