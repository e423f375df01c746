use Rattle.std.proofs.Common.{◌≡◌, take}
use Rattle.run_entries.proofs.processed.copy_files.Given as goal

-- the copies so far are what came so far
abbrev pub invariant-loop-each : goal.invariant-loop-each
invariant-loop-each l = l.copies ≡ take l.each-index l.files
