use Rattle.std.proofs.Common.{◌≡◌, take}
use Rattle.decl_tree.proofs.member.copy_type_params.Given as goal

-- the copies so far are the items so far
abbrev pub invariant-loop-each : goal.invariant-loop-each
invariant-loop-each l = l.copies ≡ take l.each-index l.items
