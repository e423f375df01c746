use Rattle.std.proofs.Common.{◌≡◌, ◌++◌, length, take}
use Rattle.std.specs.List.{flat_map}
use Rattle.std.specs.Int.{w32, to_be_bytes}
use Rattle.apt_base.specs.Fields.{bytes_form}
use Rattle.wire_frames.specs.Outputs.{added}
use Rattle.wire_frames.proofs.form_writing.put_texts.Given as goal

abbrev pub invariant-loop-text : goal.invariant-loop-text
invariant-loop-text l = l.output ≡ added l.fn.output (to_be_bytes w32 (length l.texts) ++ flat_map bytes_form (take l.text-index l.texts))
