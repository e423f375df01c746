use Rattle.std.proofs.Common.{◌≡◌, ◌++◌, take}
use Rattle.std.specs.List.{flat_map}
use Rattle.record_forms.proofs.lists.write_list.Given as goal

-- the items so far are written
abbrev pub invariant-loop-each : goal.invariant-loop-each
invariant-loop-each g l = l.writer ≡ l.initial.writer ++ flat_map g.T.InRecord.form.spelling (take l.each-index l.items)
