use Rattle.std.proofs.Common.{◌≡◌, ◌-◌, ◌+◌, ◌*◌}
use Rattle.apt_base.specs.Forms.{items_next}
use Rattle.decl_syntax.specs.Reading.{member_in, inside_declaration_next}
use Rattle.apt_base.proofs.Counted.{with_front}
use Rattle.decl_syntax.proofs.unit_reading.+unit_reading.Given as goal

-- what was read, and what is left to read, are all
abbrev pub invariant-members-loop : goal.invariant-members-loop
invariant-members-loop l = with_front l.items (items_next (member_in l.room (inside_declaration_next l.room l.start)) (l.count - l.counter) l.reader) ≡ items_next (member_in l.room (inside_declaration_next l.room l.start)) l.count l.initial.reader

abbrev pub decreases-nested : goal.decreases-nested
decreases-nested l = 8 * l.room + 0

abbrev pub decreases-member : goal.decreases-member
decreases-member l = 8 * l.room + 1

abbrev pub decreases-members : goal.decreases-members
decreases-members l = 8 * l.room + 2

abbrev pub decreases-declaration : goal.decreases-declaration
decreases-declaration l = 8 * l.room + 3
