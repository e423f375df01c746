use Rattle.std.proofs.Common.{◌≡◌, drop}
use Rattle.origin_record.specs.OldTables.{enter_all}
use Rattle.origin_record.proofs.tables.enter_all.Given as goal

-- with the units that are left the table is the one that is due
abbrev pub invariant-loop-named : goal.invariant-loop-named
invariant-loop-named l = enter_all l.table (drop l.named-index l.units) ≡ enter_all l.initial.table l.units
