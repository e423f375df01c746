use Rattle.std.proofs.Common.{◌≡◌, take}
use Rattle.decl_tree.proofs.annotation.+copy_annotation.Given as goal

-- the copies so far are the items so far
abbrev pub invariant-copy_pairs-loop-each : goal.invariant-copy_pairs-loop-each
invariant-copy_pairs-loop-each l = l.copies ≡ take l.each-index l.items

abbrev pub invariant-copy_values-loop-each : goal.invariant-copy_values-loop-each
invariant-copy_values-loop-each l = l.copies ≡ take l.each-index l.items
