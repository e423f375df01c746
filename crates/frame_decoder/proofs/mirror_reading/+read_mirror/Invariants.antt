use Rattle.std.proofs.Common.{◌≡◌, ◌-◌, ◌+◌, ◌*◌}
use Rattle.apt_base.specs.Forms.{items_next}
use Rattle.apt_base.proofs.Counted.{with_front}
use Rattle.frame_decoder.specs.PartReadings.{mirror_next}
use Rattle.frame_decoder.proofs.mirror_reading.+read_mirror.Given as goal

-- what was read, and what is left to read, are all
abbrev pub invariant-read_mirrors-loop : goal.invariant-read_mirrors-loop
invariant-read_mirrors-loop l = with_front l.items (items_next (mirror_next l.room) (l.count - l.counter) l.reader) ≡ items_next (mirror_next l.room) l.count l.initial.reader

abbrev pub decreases-around_mirror : goal.decreases-around_mirror
decreases-around_mirror l = 8 * l.room + 6

abbrev pub decreases-read_mirror : goal.decreases-read_mirror
decreases-read_mirror l = 8 * l.room + 7

abbrev pub decreases-read_mirrors : goal.decreases-read_mirrors
decreases-read_mirrors l = 8 * l.room + 8

abbrev pub decreases-optional_mirror : goal.decreases-optional_mirror
decreases-optional_mirror l = 8 * l.room + 8

abbrev pub decreases-bounded : goal.decreases-bounded
decreases-bounded l = 8 * l.room + 8

abbrev pub decreases-array : goal.decreases-array
decreases-array l = 8 * l.room + 9

abbrev pub decreases-wildcard : goal.decreases-wildcard
decreases-wildcard l = 8 * l.room + 9

abbrev pub decreases-declared : goal.decreases-declared
decreases-declared l = 8 * l.room + 9

abbrev pub decreases-executable : goal.decreases-executable
decreases-executable l = 8 * l.room + 9

abbrev pub decreases-mirror_of : goal.decreases-mirror_of
decreases-mirror_of l = 8 * l.room + 10

abbrev pub decreases-mirror_in : goal.decreases-mirror_in
decreases-mirror_in l = 8 * l.room + 11
