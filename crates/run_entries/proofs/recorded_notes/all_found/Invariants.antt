use Rattle.std.proofs.Common.{◌≡◌, ◌++◌, ◌-◌}
use Rattle.std.specs.List.{flat_map, range_with_len}
use Rattle.run_entries.specs.Notes.{notes_on}
use Rattle.run_entries.proofs.recorded_notes.all_found.Given as goal

-- the notes so far, and those to come
abbrev pub invariant-loop-processor : goal.invariant-loop-processor
invariant-loop-processor l =
    l.notes ++ flat_map (notes_on l.found) (range_with_len l.processor (l.processors - l.processor)) ≡ flat_map (notes_on l.found) (range_with_len 0 l.processors)
