use Rattle.std.proofs.Common.{◌≡◌, drop}
use Rattle.std.specs.List.{list_all}
use Rattle.origin_record.specs.Conditions.{is_below}
use Rattle.origin_record.proofs.conditions.are_below.Given as goal

-- those that are left say what all say
abbrev pub invariant-loop-note : goal.invariant-loop-note
invariant-loop-note l = list_all (is_below l.processors) (drop l.note-index l.notes) ≡ list_all (is_below l.processors) l.notes
