use Rattle.std.proofs.Common.{◌≡◌, false, take}
use Rattle.std.specs.List.{list_any}
use Rattle.decl_tree.specs.declared.declaration.Member.{out-Member}
use Rattle.decl_elements.specs.Modifiers.{is_embodied}
use Rattle.decl_elements.proofs.modifiers.is_embodied.Given as goal

-- none of the members so far has a body
abbrev pub invariant-loop-member : goal.invariant-loop-member
invariant-loop-member l = list_any (λ m. is_embodied (out-Member m)) (take l.member-index l.members) ≡ false
