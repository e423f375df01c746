use Rattle.std.proofs.Common.{sym, subst}
use Rattle.frame_reader.specs.Stages.{IsWholeFrame}
use Rattle.frame_stream.proofs.taking.give.Goals as goal

pub frame_of-requires : goal.frame_of-requires
frame_of-requires c = record { whole = subst IsWholeFrame (sym c.bytes.ensures) c.requires.whole }
