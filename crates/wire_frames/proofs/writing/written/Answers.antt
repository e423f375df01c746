use Rattle.std.proofs.Common.{ap, ◌∙◌}
use Rattle.wire_frames.specs.Frames.{shown}
use Rattle.wire_frames.specs.Outputs.{added, written_to}
use Rattle.wire_frames.specs.Spellings.{fields_spelled}
use Rattle.wire_frames.proofs.Added.{written_added}
use Rattle.wire_frames.proofs.writing.written.Goals as goal

pub returns : goal.returns
returns c = c.into_bytes.ensures ∙ ap written_to (c.in_ok-put_fields.ensures ∙ ap (λ (o : _). added o (fields_spelled (shown c.args.frame.now))) c.in_ok-u32.ensures) ∙ written_added _ _ _ c.new.ensures
