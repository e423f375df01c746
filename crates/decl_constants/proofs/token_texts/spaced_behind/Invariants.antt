use Rattle.std.proofs.Common.{◌≡◌, ◌++◌, length, string_bytes}
use Rattle.decl_grammar.specs.Constants.{spaced}
use Rattle.decl_constants.proofs.token_texts.spaced_behind.Given as goal

abbrev pub invariant-row : goal.invariant-row
invariant-row l = string_bytes l.text ++ spaced l.rest ≡ string_bytes l.fn.front ++ spaced l.fn.symbols

abbrev pub decreases-row : goal.decreases-row
decreases-row l = length l.rest
