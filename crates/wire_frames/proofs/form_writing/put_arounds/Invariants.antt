use Rattle.std.proofs.Common.{◌≡◌, take}
use Rattle.std.specs.List.{flat_map}
use Rattle.wire_frames.specs.Outputs.{added}
use Rattle.wire_frames.specs.Spellings.{around_spelled}
use Rattle.wire_frames.proofs.form_writing.put_arounds.Given as goal

abbrev pub invariant-loop-around : goal.invariant-loop-around
invariant-loop-around l = l.output ≡ added l.fn.output (flat_map around_spelled (take l.around-index l.arounds))
