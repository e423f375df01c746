use Rattle.frame_stream.specs.Streams.{pending}
use Rattle.frame_stream.proofs.StreamsLemmas.{stays_short}
use Rattle.frame_stream.proofs.reader.Reader.feed.Goals as goal

pub invariant_of-self : goal.invariant_of-self
invariant_of-self c = stays_short c.take_byte.result (pending c.self.inside.scanner) (pending c.take_byte.new.scanner) c.args.byte c.take_byte.ensures c.self.invariant
