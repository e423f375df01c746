use Rattle.std.proofs.Common.{◌≡◌, take}
use Rattle.frame_stream.proofs.taking.scanner_of.Given as goal

abbrev pub invariant-loop-byte : goal.invariant-loop-byte
invariant-loop-byte l = l.scanner ≡ take l.byte-index l.bytes
