use Rattle.std.proofs.Common.{◌≡◌, drop}
use Rattle.std.specs.List.{list_all}
use Rattle.origin_record.specs.Conditions.{is_numbered}
use Rattle.origin_record.proofs.conditions.are_numbered.Given as goal

-- those that are left say what all say
abbrev pub invariant-loop-entry : goal.invariant-loop-entry
invariant-loop-entry l = list_all (is_numbered l.processors l.rounds) (drop l.entry-index l.entries) ≡ list_all (is_numbered l.processors l.rounds) l.entries
