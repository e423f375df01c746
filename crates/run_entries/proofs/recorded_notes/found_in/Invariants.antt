use Rattle.std.proofs.Common.{◌≡◌, ◌++◌, drop}
use Rattle.std.specs.List.{flat_map}
use Rattle.run_entries.specs.Notes.{noted}
use Rattle.run_entries.proofs.recorded_notes.found_in.Given as goal

-- what is found so far, and what is to come
abbrev pub invariant-loop-done : goal.invariant-loop-done
invariant-loop-done l = l.found ++ flat_map noted (drop l.done-index l.processed) ≡ flat_map noted l.processed
