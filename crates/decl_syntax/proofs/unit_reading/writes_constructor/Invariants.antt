use Rattle.std.proofs.Common.{◌≡◌, false, take}
use Rattle.std.specs.List.{list_any}
use Rattle.decl_tree.specs.Legal.{constructs}
use Rattle.decl_tree.specs.declared.declaration.Member.{out-Member}
use Rattle.decl_syntax.proofs.unit_reading.writes_constructor.Given as goal

-- none of the members so far is one
abbrev pub invariant-loop-each : goal.invariant-loop-each
invariant-loop-each l = list_any (λ m. constructs (out-Member m)) (take l.each-index l.members) ≡ false
