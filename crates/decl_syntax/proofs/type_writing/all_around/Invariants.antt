use Rattle.std.proofs.Common.{◌≡◌, ◌++◌, take}
use Rattle.std.specs.List.{flat_map}
use Rattle.decl_syntax.specs.Shape.{around_form}
use Rattle.decl_syntax.proofs.type_writing.all_around.Given as goal

-- the items so far are written
abbrev pub invariant-loop-each : goal.invariant-loop-each
invariant-loop-each l = l.writer ≡ l.initial.writer ++ flat_map around_form (take l.each-index l.items)
