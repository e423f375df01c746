use Rattle.std.proofs.Common.{◌≡◌, ◌++◌, take}
use Rattle.std.specs.List.{flat_map}
use Rattle.decl_syntax.specs.Shape.{member_form}
use Rattle.decl_syntax.proofs.unit_writing.+unit_writing.Given as goal

-- the items so far are written
abbrev pub invariant-members-loop-each : goal.invariant-members-loop-each
invariant-members-loop-each l = l.writer ≡ l.initial.writer ++ flat_map member_form (take l.each-index l.items)
