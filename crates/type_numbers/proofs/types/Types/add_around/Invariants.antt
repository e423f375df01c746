use Rattle.std.proofs.Common.{◌-◌, length, drop}
use Rattle.type_mirror.specs.Parts.{wrapped}
use Rattle.type_numbers.specs.Numbers.{at, Stands, Grows}
use Rattle.type_numbers.proofs.types.Types.add_around.Given as goal

-- the number is that of the type with the forms so far around it
abbrev pub invariant-loop-at : goal.invariant-loop-at
invariant-loop-at l = record {
  stands : Stands l.self l.number (wrapped (drop (length l.around - l.at) l.around) (at l.initial.self l.inner));
  grows : Grows l.initial.self l.self;
}
