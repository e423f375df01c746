use Rattle.std.proofs.Common.{◌≡◌, ◌++◌, length, take}
use Rattle.std.specs.List.{flat_map}
use Rattle.std.specs.Int.{w32, to_be_bytes}
use Rattle.wire_frames.specs.Outputs.{added}
use Rattle.wire_frames.specs.Spellings.{mirror_spelled}
use Rattle.wire_frames.proofs.form_writing.+put_mirror.Given as goal

abbrev pub invariant-put_mirrors-loop-each : goal.invariant-put_mirrors-loop-each
invariant-put_mirrors-loop-each l = l.output ≡ added l.fn.output (to_be_bytes w32 (length l.mirrors) ++ flat_map (mirror_spelled l.room) (take l.each-index l.mirrors))
