use Rattle.std.proofs.Common.{◌≡◌}
use Rattle.decl_grammar.specs.Grammar.{plain_type_params, type_param_lines}
use Rattle.decl_members.proofs.made_members.apart_type_params.Given as goal

-- the type parameters so far are put apart
abbrev pub invariant-loop-each : goal.invariant-loop-each
invariant-loop-each l = (l.all ≡ plain_type_params l.yielded) × (l.lines ≡ type_param_lines l.yielded)
