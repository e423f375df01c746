use Rattle.std.proofs.Common.{◌≡◌, ◌++◌}
use Rattle.decl_grammar.specs.Grammar.{plain_members, member_lines}
use Rattle.decl_members.proofs.made_members.apart_members.Given as goal

-- what came so far is put apart, its lines behind those before
abbrev pub invariant-loop-each : goal.invariant-loop-each
invariant-loop-each l = (l.all ≡ plain_members l.yielded) × (l.lines ≡ l.fn.front ++ member_lines l.yielded)
