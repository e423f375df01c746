use Rattle.std.proofs.Common.{◌≡◌, drop}
use Rattle.type_numbers.specs.Replaced.{number_for}
use Rattle.type_numbers.proofs.substitution.number_for.Given as goal

-- what is left has the same for the variable
abbrev pub invariant-loop-pair : goal.invariant-loop-pair
invariant-loop-pair l = number_for (drop l.pair-index l.by) l.element ≡ number_for l.by l.element
