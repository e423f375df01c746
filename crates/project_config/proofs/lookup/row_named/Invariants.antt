use Rattle.std.proofs.Common.{◌≡◌, drop}
use Rattle.project_config.specs.Discovery.{row_named}
use Rattle.project_config.proofs.lookup.row_named.Given as goal

abbrev pub invariant-loop-row : goal.invariant-loop-row
invariant-loop-row l = row_named l.name (drop l.row-index l.rows) ≡ row_named l.name l.rows
