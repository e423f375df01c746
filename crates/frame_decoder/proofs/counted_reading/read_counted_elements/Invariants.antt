use Rattle.std.proofs.Common.{◌≡◌, ◌-◌}
use Rattle.apt_base.specs.Forms.{items_next}
use Rattle.apt_base.proofs.Counted.{with_front}
use Rattle.wire_frames.specs.Readings.{element_next}
use Rattle.frame_decoder.proofs.counted_reading.read_counted_elements.Given as goal

-- what was read, and what is left to read, are all
abbrev pub invariant-loop : goal.invariant-loop
invariant-loop l = with_front l.items (items_next element_next (l.count - l.counter) l.reader) ≡ items_next element_next l.count l.initial.reader
