use Rattle.std.proofs.Common.{take}
use Rattle.type_numbers.specs.Numbers.{Grows}
use Rattle.type_members.specs.Gathered.{AddsEach}
use Rattle.type_members.proofs.reaching.add_types.Given as goal

-- those so far are added
abbrev pub invariant-loop-number : goal.invariant-loop-number
invariant-loop-number l = record {
  adds : AddsEach l.initial.types l.types l.initial.reached l.reached (take l.number-index l.numbers);
  grows : Grows l.initial.types l.types;
}
