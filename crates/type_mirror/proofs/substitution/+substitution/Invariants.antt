use Rattle.std.proofs.Common.{◌≡◌, map, take}
use Rattle.type_mirror.specs.Substitution.{substituted}
use Rattle.type_mirror.proofs.substitution.+substitution.Given as goal

-- the mirrors so far are replaced
abbrev pub invariant-in_each-loop-each : goal.invariant-in_each-loop-each
invariant-in_each-loop-each l = l.replaced ≡ map (substituted l.by) (take l.each-index l.mirrors)
