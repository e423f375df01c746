-- Sorts of symbols that stand in expressions.
use Rattle.std.specs.Prelude.{ℕ, List, ◌∷◌}
use Rattle.decl_grammar.specs.Symbols.{operator, numbers}
use Rattle.decl_grammar.specs.TokenNames as token

-- the operators that tell nothing in an expression
abbrev pub plain_operators : List ℕ
plain_operators = operator token.ellipsis ∷ operator token.exclamation ∷ operator token.tilde ∷ numbers (operator token.double_equals) 30
