use Rattle.std.proofs.Common.{◌≡◌, length}
use Rattle.decl_syntax.specs.Reading.{opening_next}
use Rattle.decl_syntax.proofs.Openings.{with_around}
use Rattle.decl_syntax.proofs.type_reading.read_opening.Given as goal

-- what was read around the base, and what is left to read, are all
abbrev pub invariant-loop-around : goal.invariant-loop-around
invariant-loop-around l = with_around l.around (opening_next l.reader) ≡ opening_next l.initial.reader

abbrev pub decreases-loop-around : goal.decreases-loop-around
decreases-loop-around l = length l.reader
