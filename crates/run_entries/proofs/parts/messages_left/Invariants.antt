use Rattle.std.proofs.Common.{◌≡◌, ◌++◌}
use Rattle.run_entries.specs.Roots.{is_message_outside}
use Rattle.run_entries.proofs.PositionLemmas.{rest_at}
use Rattle.run_entries.proofs.parts.messages_left.Given as goal

-- the places so far, and those to come
abbrev pub invariant-loop-at : goal.invariant-loop-at
invariant-loop-at l = l.places ++ rest_at (is_message_outside l.roots) l.messages l.at ≡ rest_at (is_message_outside l.roots) l.messages 0
