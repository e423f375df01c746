use Rattle.std.proofs.Common.{◌≡◌, drop}
use Rattle.origin_record.specs.OldTables.{enter_rounds}
use Rattle.origin_record.proofs.tables.enter_rounds.Given as goal

-- with the rounds that are left the table is the one that is due
abbrev pub invariant-loop-round : goal.invariant-loop-round
invariant-loop-round l = enter_rounds l.table (drop l.round-index l.rounds) ≡ enter_rounds l.initial.table l.rounds
