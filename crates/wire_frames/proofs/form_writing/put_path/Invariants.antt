use Rattle.std.proofs.Common.{◌≡◌, ◌++◌, length, take}
use Rattle.std.specs.List.{flat_map}
use Rattle.std.specs.Int.{w16, w32, to_be_bytes}
use Rattle.wire_frames.specs.Outputs.{added}
use Rattle.wire_frames.proofs.form_writing.put_path.Given as goal

abbrev pub invariant-loop-step : goal.invariant-loop-step
invariant-loop-step l = l.output ≡ added l.fn.output (to_be_bytes w32 (length l.path) ++ flat_map (to_be_bytes w16) (take l.step-index l.path))
