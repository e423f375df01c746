use Rattle.std.proofs.Common.{◌≡◌, take}
use Rattle.decl_tree.proofs.declaration.+copy_declaration.Given as goal

-- the copies so far are the items so far
abbrev pub invariant-copy_members-loop-each : goal.invariant-copy_members-loop-each
invariant-copy_members-loop-each l = l.copies ≡ take l.each-index l.items
