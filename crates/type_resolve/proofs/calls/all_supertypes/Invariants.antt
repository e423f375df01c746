use Rattle.std.proofs.Common.{◌≡◌, take}
use Rattle.name_resolve.specs.Shown.{find_of}
use Rattle.type_resolve.specs.MirrorParts.{supertype_mirrors}
use Rattle.type_resolve.proofs.calls.all_supertypes.Given as goal

-- the mirrors so far, by look-ups over the same table
abbrev pub invariant-loop-each : goal.invariant-loop-each
invariant-loop-each l = (l.mirrors ≡ supertype_mirrors l.scope.table.now (find_of l.scope.at) (take l.each-index l.list)) × (l.looks ≡ l.fn.looks)
