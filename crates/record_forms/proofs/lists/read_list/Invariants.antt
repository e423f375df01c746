use Rattle.std.proofs.Common.{◌≡◌, ◌-◌}
use Rattle.apt_base.specs.Forms.{items_next}
use Rattle.apt_base.proofs.Counted.{with_front}
use Rattle.record_forms.proofs.lists.read_list.Given as goal

-- what was read, and what is left to read, are all
abbrev pub invariant-loop : goal.invariant-loop
invariant-loop g l = with_front l.items (items_next g.T.InRecord.form.next (l.count - l.counter) l.reader) ≡ items_next g.T.InRecord.form.next l.count l.initial.reader
