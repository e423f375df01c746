use Rattle.std.proofs.Common.{◌≡◌, length, reverse, [], ◌∷◌}
use Rattle.decl_grammar.specs.Reading.{pass}
use Rattle.decl_names.proofs.skipping.pass_over.Given as goal

abbrev pub invariant-brackets : goal.invariant-brackets
invariant-brackets l = pass (reverse l.open.items) l.rest ≡ pass (l.fn.closer ∷ []) l.fn.symbols

abbrev pub decreases-brackets : goal.decreases-brackets
decreases-brackets l = length l.rest
