use Rattle.frame_decoder.proofs.Wrapping.{wrapped-plain}
use Rattle.frame_decoder.proofs.mirror_reading.based.Goals as goal

pub returns : goal.returns
returns c = wrapped-plain c.args.around c.args.base
