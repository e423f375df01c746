use Rattle.std.proofs.Common.{◌≡◌, take}
use Rattle.run_entries.proofs.processed.copy_roots.Given as goal

-- the copies so far are what came so far
abbrev pub invariant-loop-root : goal.invariant-loop-root
invariant-loop-root l = l.copies ≡ take l.root-index l.roots
