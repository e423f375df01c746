use Rattle.std.proofs.Common.{◌≡◌, ◌-◌, ◌+◌, ◌*◌}
use Rattle.apt_base.specs.Forms.{items_next}
use Rattle.decl_syntax.specs.Reading.{pair_in, value_next}
use Rattle.apt_base.proofs.Counted.{with_front}
use Rattle.decl_syntax.proofs.annotation_reading.+annotation_reading.Given as goal

-- what was read, and what is left to read, are all
abbrev pub invariant-pairs-loop : goal.invariant-pairs-loop
invariant-pairs-loop l = with_front l.items (items_next (pair_in (value_next l.room)) (l.count - l.counter) l.reader) ≡ items_next (pair_in (value_next l.room)) l.count l.initial.reader

abbrev pub invariant-values-loop : goal.invariant-values-loop
invariant-values-loop l = with_front l.items (items_next (value_next l.room) (l.count - l.counter) l.reader) ≡ items_next (value_next l.room) l.count l.initial.reader

abbrev pub decreases-value : goal.decreases-value
decreases-value l = 8 * l.room + 0

abbrev pub decreases-opened : goal.decreases-opened
decreases-opened l = 8 * l.room + 5

abbrev pub decreases-annotation : goal.decreases-annotation
decreases-annotation l = 8 * l.room + 3

abbrev pub decreases-pair : goal.decreases-pair
decreases-pair l = 8 * l.room + 1

abbrev pub decreases-pairs : goal.decreases-pairs
decreases-pairs l = 8 * l.room + 2

abbrev pub decreases-values : goal.decreases-values
decreases-values l = 8 * l.room + 1
