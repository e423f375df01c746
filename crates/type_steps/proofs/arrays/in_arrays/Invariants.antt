use Rattle.type_numbers.specs.Numbers.{at, Stands, Grows}
use Rattle.type_steps.specs.Arrays.{arrays}
use Rattle.type_steps.proofs.arrays.in_arrays.Given as goal

-- the number is that of the type in the arrays so far
abbrev pub invariant-loop : goal.invariant-loop
invariant-loop l = record { stands : Stands l.types l.number (arrays l.counter (at l.initial.types l.item)); grows : Grows l.initial.types l.types }
