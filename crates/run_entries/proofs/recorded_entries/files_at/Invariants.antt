use Rattle.std.proofs.Common.{◌≡◌, ◌++◌, drop, map}
use Rattle.run_entries.specs.Entries.{stored_file}
use Rattle.run_entries.specs.Positions.{items_at}
use Rattle.run_entries.proofs.recorded_entries.files_at.Given as goal

-- the files so far, and those to come
abbrev pub invariant-loop-at : goal.invariant-loop-at
invariant-loop-at l =
    l.stored.items ++ map (stored_file l.stores) (items_at l.files (drop l.at-index l.places)) ≡ map (stored_file l.stores) (items_at l.files l.places)
