use Rattle.std.proofs.Common.{◌≡◌, map, take}
use Rattle.type_mirror.specs.Substitution.{substituted}
use Rattle.type_relations.proofs.replacing.replaced.Given as goal

-- the types so far are replaced
abbrev pub invariant-loop-each : goal.invariant-loop-each
invariant-loop-each l = l.list ≡ map (substituted l.by) (take l.each-index l.types)
