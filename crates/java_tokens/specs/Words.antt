-- The reserved words (JLS 3.9, where `_` is one) and the separators and operators (JLS 3.11, 3.12), by their numbers.
use Rattle.std.specs.Prelude.{ℕ, List, [], ◌∷◌, codes}
use Rattle.apt_base.specs.Identifiers.{keywords, reserved_words, numbered}

abbrev pub operators : List (List ℕ)
operators =
    codes "(" ∷ codes ")" ∷ codes "{" ∷ codes "}" ∷ codes "[" ∷ codes "]" ∷ codes ";" ∷ codes "," ∷
    codes "." ∷ codes "..." ∷ codes "@" ∷ codes "::" ∷ codes "=" ∷ codes ">" ∷ codes "<" ∷ codes "!" ∷
    codes "~" ∷ codes "?" ∷ codes ":" ∷ codes "->" ∷ codes "==" ∷ codes ">=" ∷ codes "<=" ∷ codes "!=" ∷
    codes "&&" ∷ codes "||" ∷ codes "++" ∷ codes "--" ∷ codes "+" ∷ codes "-" ∷ codes "*" ∷ codes "/" ∷
    codes "&" ∷ codes "|" ∷ codes "^" ∷ codes "%" ∷ codes "<<" ∷ codes ">>" ∷ codes ">>>" ∷ codes "+=" ∷
    codes "-=" ∷ codes "*=" ∷ codes "/=" ∷ codes "&=" ∷ codes "|=" ∷ codes "^=" ∷ codes "%=" ∷ codes "<<=" ∷
    codes ">>=" ∷ codes ">>>=" ∷ []

-- the table of reserved words, from 0
abbrev pub reserved_rows : List (List ℕ × ℕ)
reserved_rows = numbered 0 keywords

-- the same and behind them the literals that are words
abbrev pub word_rows : List (List ℕ × ℕ)
word_rows = numbered 0 reserved_words

-- the table of separators and operators, from 0
abbrev pub operator_rows : List (List ℕ × ℕ)
operator_rows = numbered 0 operators
