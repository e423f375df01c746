use Rattle.std.proofs.Common.{◌≡◌, ◌++◌, take}
use Rattle.std.specs.List.{flat_map}
use Rattle.decl_syntax.specs.Shape.{pair_form, value_form}
use Rattle.decl_syntax.proofs.annotation_writing.+annotation_writing.Given as goal

-- the items so far are written
abbrev pub invariant-pairs-loop-each : goal.invariant-pairs-loop-each
invariant-pairs-loop-each l = l.writer ≡ l.initial.writer ++ flat_map pair_form (take l.each-index l.items)

abbrev pub invariant-values-loop-each : goal.invariant-values-loop-each
invariant-values-loop-each l = l.writer ≡ l.initial.writer ++ flat_map value_form (take l.each-index l.items)
