use Rattle.std.proofs.Common.{◌≡◌, ◌++◌, drop, length}
use Rattle.run_entries.specs.Entries.{numbered}
use Rattle.run_entries.specs.Positions.{items_at}
use Rattle.run_entries.proofs.recorded_entries.messages_at.Given as goal

-- the messages so far, and those to come
abbrev pub invariant-loop-at : goal.invariant-loop-at
invariant-loop-at l = l.stored ++ numbered (length l.stored) (items_at l.messages (drop l.at-index l.places)) ≡ numbered 0 (items_at l.messages l.places)
