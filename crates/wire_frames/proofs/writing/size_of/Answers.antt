use Rattle.std.proofs.Common.{◌≡◌, true, false, ap, ◌∙◌}
use Rattle.wire_frames.specs.Outputs.{added, is_written, size_of}
use Rattle.wire_frames.proofs.writing.size_of.Goals as goal

pub returns-in-Ok : goal.returns-in-Ok
unfolding added
returns-in-Ok c = c.size.ensures ∙ ap size_of c.in-Ok.ensures

pub returns-in-Err : goal.returns-in-Err
unfolding is_written
returns-in-Err c = let wrong : false ≡ true = c.in-Err.ensures in absurd cc
