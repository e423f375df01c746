use Rattle.std.proofs.Common.{take}
use Rattle.type_numbers.specs.Numbers.{AllStand, Grows}
use Rattle.type_numbers.proofs.types.Types.+adding.Given as goal

-- the mirrors so far have the numbers so far
abbrev pub invariant-add_each-loop-each : goal.invariant-add_each-loop-each
invariant-add_each-loop-each l = record { stand : AllStand l.self l.numbers (take l.each-index l.mirrors); grows : Grows l.initial.self l.self }
