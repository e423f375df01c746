use Rattle.std.proofs.Common.{◌≡◌, ◌++◌, take}
use Rattle.std.specs.List.{flat_map}
use Rattle.decl_syntax.specs.Shape.{part_form, type_form}
use Rattle.decl_syntax.proofs.type_writing.+type_writing.Given as goal

-- the items so far are written
abbrev pub invariant-parts-loop-each : goal.invariant-parts-loop-each
invariant-parts-loop-each l = l.writer ≡ l.initial.writer ++ flat_map part_form (take l.each-index l.items)

abbrev pub invariant-types-loop-each : goal.invariant-types-loop-each
invariant-types-loop-each l = l.writer ≡ l.initial.writer ++ flat_map type_form (take l.each-index l.items)
