use Rattle.std.proofs.Common.{◌≡◌, take}
use Rattle.decl_tree.proofs.type_text.+copy_type.Given as goal

-- the copies so far are the items so far
abbrev pub invariant-copy_parts-loop-each : goal.invariant-copy_parts-loop-each
invariant-copy_parts-loop-each l = l.copies ≡ take l.each-index l.items

abbrev pub invariant-copy_types-loop-each : goal.invariant-copy_types-loop-each
invariant-copy_types-loop-each l = l.copies ≡ take l.each-index l.items
