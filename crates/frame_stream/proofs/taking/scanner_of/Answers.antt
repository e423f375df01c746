use Rattle.std.proofs.Common.{refl}
use Rattle.frame_stream.proofs.StreamsLemmas.{byte_more}
use Rattle.frame_stream.proofs.taking.scanner_of.Goals as goal

pub loop-byte-preserved : goal.loop-byte-preserved
loop-byte-preserved c = byte_more c.args.bytes.now c.loop-byte.scanner c.take.new.self c.loop-byte.byte-index _ 0 c.requires.begun c.loop-byte-test.true refl c.loop-byte.invariant c.in_ok-take.ensures.ok
