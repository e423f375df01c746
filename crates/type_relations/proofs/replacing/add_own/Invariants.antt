use Rattle.std.proofs.Common.{◌≡◌, take}
use Rattle.std.specs.List.{zip}
use Rattle.type_mirror.specs.Substitution.{AreDistinct}
use Rattle.type_relations.specs.RawTypes.{once_behind}
use Rattle.type_relations.proofs.replacing.add_own.Given as goal

-- the entries so far
abbrev pub invariant-loop-at : goal.invariant-loop-at
invariant-loop-at l = (l.by ≡ once_behind l.fn.by (zip (take l.at l.parameters) (take l.at l.arguments))) × AreDistinct l.by
