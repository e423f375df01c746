use Rattle.std.proofs.Common.{◌≡◌, false, take}
use Rattle.std.specs.List.{list_any}
use Rattle.decl_tree.specs.Legal.{constructs}
use Rattle.decl_tree.specs.declared.declaration.Member.{out-Member}
use Rattle.decl_elements.proofs.place.writes_constructor.Given as goal

-- none of the members so far is one
abbrev pub invariant-loop-member : goal.invariant-loop-member
invariant-loop-member l = list_any (λ m. constructs (out-Member m)) (take l.member-index l.members) ≡ false
