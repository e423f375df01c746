use Rattle.std.proofs.Common.{◌≡◌, ◌-◌}
use Rattle.apt_base.specs.Forms.{items_next}
use Rattle.apt_base.proofs.Counted.{with_front}
use Rattle.decl_syntax.proofs.in_unit.list_of.Given as goal

-- what was read, and what is left to read, are all
abbrev pub invariant-loop : goal.invariant-loop
invariant-loop g l = with_front l.items (items_next (g.T.InUnit.next l.room) (l.count - l.counter) l.reader) ≡ items_next (g.T.InUnit.next l.room) l.count l.initial.reader
