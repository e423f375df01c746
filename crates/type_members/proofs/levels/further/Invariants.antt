use Rattle.std.proofs.Common.{◌≡◌}
use Rattle.type_numbers.specs.Numbers.{Grows}
use Rattle.type_members.proofs.NextLevels.{IsLevelSoFar}
use Rattle.type_members.proofs.levels.further.Given as goal

-- the direct supertypes of the types so far
abbrev pub invariant-loop-number : goal.invariant-loop-number
invariant-loop-number l = record {
  level : IsLevelSoFar l.fn.resolver l.initial.types l.types l.level l.next l.number-index;
  grows : Grows l.initial.types l.types;
  kept : l.resolver ≡ l.fn.resolver;
}
