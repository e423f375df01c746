use Rattle.std.proofs.Common.{◌≡◌, ◌-◌}
use Rattle.apt_base.specs.Forms.{items_next}
use Rattle.apt_base.proofs.Counted.{with_front}
use Rattle.frame_decoder.specs.HostReadings.{annotation_next}
use Rattle.frame_decoder.proofs.reply_reading.annotations.Given as goal

-- what was read, and what is left to read, are all
abbrev pub invariant-loop : goal.invariant-loop
invariant-loop l = with_front l.items (items_next (annotation_next 256) (l.count - l.counter) l.reader) ≡ items_next (annotation_next 256) l.count l.initial.reader
