use Rattle.std.proofs.Common.{◌≡◌, ◌-◌, ◌+◌, ◌*◌}
use Rattle.apt_base.specs.Forms.{items_next}
use Rattle.decl_syntax.specs.Reading.{part_in, inside_next}
use Rattle.apt_base.proofs.Counted.{with_front}
use Rattle.decl_syntax.proofs.type_reading.+type_reading.Given as goal

-- what was read, and what is left to read, are all
abbrev pub invariant-parts-loop : goal.invariant-parts-loop
invariant-parts-loop l = with_front l.items (items_next (part_in (inside_next l.room)) (l.count - l.counter) l.reader) ≡ items_next (part_in (inside_next l.room)) l.count l.initial.reader

abbrev pub invariant-insides-loop : goal.invariant-insides-loop
invariant-insides-loop l = with_front l.items (items_next (inside_next l.room) (l.count - l.counter) l.reader) ≡ items_next (inside_next l.room) l.count l.initial.reader

abbrev pub decreases-type_text : goal.decreases-type_text
decreases-type_text l = 8 * l.room + 6

abbrev pub decreases-base : goal.decreases-base
decreases-base l = 8 * l.room + 5

abbrev pub decreases-parts : goal.decreases-parts
decreases-parts l = 8 * l.room + 4

abbrev pub decreases-part : goal.decreases-part
decreases-part l = 8 * l.room + 3

abbrev pub decreases-arguments : goal.decreases-arguments
decreases-arguments l = 8 * l.room + 2

abbrev pub decreases-insides : goal.decreases-insides
decreases-insides l = 8 * l.room + 1

abbrev pub decreases-inside : goal.decreases-inside
decreases-inside l = 8 * l.room + 0
