use Rattle.std.proofs.Common.{◌≡◌, ◌++◌, drop}
use Rattle.run_entries.specs.Entries.{entries_of}
use Rattle.run_entries.proofs.recorded_entries.entries.Given as goal

-- the entries so far, and those to come
abbrev pub invariant-loop-done : goal.invariant-loop-done
invariant-loop-done l = l.entries ++ entries_of l.stores (drop l.done-index l.processed) ≡ entries_of l.stores l.processed
