use Rattle.std.proofs.Common.{◌≡◌, ◌++◌, drop, filter}
use Rattle.std.specs.FinMap as fin
use Rattle.run_entries.proofs.annotated.names_among.Given as goal

-- the names so far, and those to come
abbrev pub invariant-loop-name : goal.invariant-loop-name
invariant-loop-name l = l.some ++ filter (fin.contains_key l.set) (drop l.name-index l.names) ≡ filter (fin.contains_key l.set) l.names
