use Rattle.std.proofs.Common.{ℕ, List, length, ◌≤◌, ap, ◌∙◌, arith}
use Rattle.frame_stream.specs.Streams.{pending, most_bytes}
use Rattle.frame_stream.proofs.StreamsLemmas.{pending_none}
use Rattle.frame_stream.proofs.reader.Reader.new.Goals as goal

pub invariant_of-result : goal.invariant_of-result
invariant_of-result c = let short : length (pending c.new.result) ≤ most_bytes = omega (arith, ap (λ (bytes : List ℕ). length (pending bytes)) c.new.ensures, ap length pending_none) in short

pub returns : goal.returns
returns c = ap pending c.new.ensures ∙ pending_none
