use Rattle.std.proofs.Common.{◌≡◌, ◌-◌, ◌+◌, ◌*◌}
use Rattle.apt_base.specs.Forms.{items_next}
use Rattle.apt_base.proofs.Counted.{with_front}
use Rattle.frame_decoder.specs.PartReadings.{named_in, value_next}
use Rattle.frame_decoder.proofs.value_reading.+read_value.Given as goal

-- what was read, and what is left to read, are all
abbrev pub invariant-values-loop : goal.invariant-values-loop
invariant-values-loop l = with_front l.items (items_next (value_next l.room) (l.count - l.counter) l.reader) ≡ items_next (value_next l.room) l.count l.initial.reader

abbrev pub invariant-named_values-loop : goal.invariant-named_values-loop
invariant-named_values-loop l = with_front l.items (items_next (named_in (value_next l.room)) (l.count - l.counter) l.reader) ≡ items_next (named_in (value_next l.room)) l.count l.initial.reader

abbrev pub decreases-read_value : goal.decreases-read_value
decreases-read_value l = 8 * l.room + 6

abbrev pub decreases-named_value : goal.decreases-named_value
decreases-named_value l = 8 * l.room + 7

abbrev pub decreases-values : goal.decreases-values
decreases-values l = 8 * l.room + 7

abbrev pub decreases-named_values : goal.decreases-named_values
decreases-named_values l = 8 * l.room + 8

abbrev pub decreases-read_annotation : goal.decreases-read_annotation
decreases-read_annotation l = 8 * l.room + 9

abbrev pub decreases-array_value : goal.decreases-array_value
decreases-array_value l = 8 * l.room + 10

abbrev pub decreases-nested : goal.decreases-nested
decreases-nested l = 8 * l.room + 10

abbrev pub decreases-value_of : goal.decreases-value_of
decreases-value_of l = 8 * l.room + 11

abbrev pub decreases-value_in : goal.decreases-value_in
decreases-value_in l = 8 * l.room + 12
