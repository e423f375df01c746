use Rattle.std.proofs.Common.{◌≡◌, ◌++◌}
use Rattle.decl_grammar.specs.Grammar.{plain_params, param_lines}
use Rattle.decl_members.proofs.made_members.apart_params.Given as goal

-- what came so far is put apart, its lines behind those before
abbrev pub invariant-loop-each : goal.invariant-loop-each
invariant-loop-each l = (l.all ≡ plain_params l.yielded) × (l.lines ≡ l.fn.front ++ param_lines l.yielded)
