use Rattle.frame_stream.specs.Streams.{pending}
use Rattle.frame_stream.proofs.Pieces.{piece_stays_short}
use Rattle.frame_stream.proofs.reader.Reader.feed_slice.Goals as goal

pub invariant_of-self : goal.invariant_of-self
invariant_of-self c =
    piece_stays_short c.take_slice.result.answer c.take_slice.result.taken c.args.bytes.now (pending c.self.inside.scanner) (pending c.take_slice.new.scanner) c.take_slice.ensures.comes c.self.invariant
