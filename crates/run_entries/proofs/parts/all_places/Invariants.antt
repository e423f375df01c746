use Rattle.std.proofs.Common.{◌≡◌, ◌++◌, ◌-◌}
use Rattle.std.specs.List.{range_with_len}
use Rattle.run_entries.proofs.parts.all_places.Given as goal

-- the places so far, and those to come
abbrev pub invariant-loop-at : goal.invariant-loop-at
invariant-loop-at l = l.places ++ range_with_len l.at (l.count - l.at) ≡ range_with_len 0 l.count
