use Rattle.std.proofs.Common.{◌≡◌, ◌≤◌, ◌-◌, ◌++◌, length, take}
use Rattle.frame_reader.specs.Stages.{IsOpenBefore}
use Rattle.frame_reader.proofs.scanner.FrameScanner.feed.Given as goal

abbrev pub invariant-loop-taken : goal.invariant-loop-taken
invariant-loop-taken l = record {
  within : l.taken ≤ length l.piece;
  bytes : l.self ≡ l.initial.self ++ take l.taken l.piece;
  before : IsOpenBefore l.taken l.piece l.initial.self;
}

abbrev pub decreases-loop-taken : goal.decreases-loop-taken
decreases-loop-taken l = length l.piece - l.taken
