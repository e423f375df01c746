use Rattle.std.proofs.Common.{◌≡◌, take}
use Rattle.project_config.proofs.config.copy_rows.Given as goal

-- the copies so far
abbrev pub invariant-loop-each : goal.invariant-loop-each
invariant-loop-each l = l.copies ≡ take l.each-index l.rows
