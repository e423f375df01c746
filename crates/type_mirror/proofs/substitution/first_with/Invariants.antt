use Rattle.std.proofs.Common.{◌≡◌, drop}
use Rattle.type_mirror.specs.Substitution.{replacement}
use Rattle.type_mirror.proofs.substitution.first_with.Given as goal

-- what is found in the rest is what is found in all
abbrev pub invariant-loop-pair : goal.invariant-loop-pair
invariant-loop-pair l = replacement (drop l.pair-index l.by) l.element ≡ replacement l.by l.element
