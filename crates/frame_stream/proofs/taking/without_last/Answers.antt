use Rattle.std.proofs.Common.{ℕ, take, ap}
use Rattle.frame_stream.proofs.StreamsLemmas.{front_is_begun}
use Rattle.frame_stream.proofs.taking.without_last.Goals as goal

pub scanner_of-requires : goal.scanner_of-requires
scanner_of-requires c = record { begun = front_is_begun c.args.bytes.now _ c.requires.whole (ap (λ (n : ℕ). take n c.args.bytes.now) c.saturating_sub.ensures) }
