use Rattle.std.proofs.Common.{◌≡◌, ◌-◌}
use Rattle.apt_base.specs.Forms.{items_next}
use Rattle.apt_base.proofs.Counted.{with_front}
use Rattle.apt_base.specs.Fields.{text_next}
use Rattle.wire_frames.proofs.reading.any_texts.Given as goal

-- what was read, and what is left to read, are all
abbrev pub invariant-loop : goal.invariant-loop
invariant-loop l = with_front l.items (items_next text_next (l.count - l.counter) l.reader) ≡ items_next text_next l.count l.initial.reader
