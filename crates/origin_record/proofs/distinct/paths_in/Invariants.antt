use Rattle.std.proofs.Common.{◌≡◌, take}
use Rattle.origin_record.specs.Conditions.{lent, paths_in}
use Rattle.origin_record.proofs.distinct.paths_in.Given as goal

-- the paths of the entries so far
abbrev pub invariant-loop-entry : goal.invariant-loop-entry
invariant-loop-entry l = lent l.paths.items ≡ paths_in (take l.entry-index l.entries)
