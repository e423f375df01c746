use Rattle.std.proofs.Common.{◌≡◌, ◌++◌, drop, map}
use Rattle.run_entries.specs.Entries.{entry_at}
use Rattle.run_entries.proofs.recorded_entries.add_roots.Given as goal

-- the entries so far, and those to come
abbrev pub invariant-loop-root : goal.invariant-loop-root
invariant-loop-root l =
    l.entries ++ map (entry_at l.stores l.done) (drop l.root-index l.done.annotated) ≡ l.fn.entries ++ map (entry_at l.stores l.done) l.done.annotated
