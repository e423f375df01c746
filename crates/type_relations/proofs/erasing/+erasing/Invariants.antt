use Rattle.std.proofs.Common.{◌≡◌, drop}
use Rattle.type_relations.specs.Closed.{behind}
use Rattle.type_relations.specs.Erasure.{erasures}
use Rattle.type_relations.proofs.erasing.+erasing.Given as goal

-- those so far with those of the rest are all
abbrev pub invariant-erasures-loop-each : goal.invariant-erasures-loop-each
invariant-erasures-loop-each l = behind l.erased (erasures l.table l.steps (drop l.each-index l.mirrors)) ≡ erasures l.table l.steps l.mirrors
