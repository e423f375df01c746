use Rattle.std.proofs.Common.{◌≡◌, ◌++◌, length}
use Rattle.round_engine.specs.Run.{place}
use Rattle.round_engine.proofs.messages.place.Given as goal

-- the messages so far are placed, and the next number is their count
abbrev pub invariant-loop-message : goal.invariant-loop-message
invariant-loop-message l = record {
  placed : l.messages ≡ l.fn.messages ++ place l.fn.round l.fn.processor 0 l.yielded;
  count : l.number ≡ length l.yielded;
}
