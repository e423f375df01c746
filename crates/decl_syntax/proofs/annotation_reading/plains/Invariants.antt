use Rattle.std.proofs.Common.{◌≡◌, ◌-◌}
use Rattle.apt_base.specs.Forms.{items_next}
use Rattle.decl_syntax.specs.Reading.{plain_next}
use Rattle.apt_base.proofs.Counted.{with_front}
use Rattle.decl_syntax.proofs.annotation_reading.plains.Given as goal

-- what was read, and what is left to read, are all
abbrev pub invariant-loop : goal.invariant-loop
invariant-loop l = with_front l.items (items_next plain_next (l.count - l.counter) l.reader) ≡ items_next plain_next l.count l.initial.reader
