-- Parts of constant forms: what stands behind brackets and behind names.
use Rattle.std.specs.Prelude.{ℕ, Bool, false, List, [], ◌∷◌, if◌then◌else◌}
use Rattle.decl_tree.specs.declared.annotation.ValueText.{ValueText}
use Rattle.decl_grammar.specs.declared.symbol.Symbol.{Symbol}
use Rattle.decl_grammar.specs.Reading.{starts, Outcome, done, ◌>>=◌, one_at}
use Rattle.decl_grammar.specs.Form.{Form, pair, turn, many, either, seen}
use Rattle.decl_grammar.specs.Types.{behind, silently, as_written, name}
use Rattle.decl_grammar.specs.Expressions.{plus_constant, bare_dim, dot_class, array_class, plain_form, plain_value}
use Rattle.decl_grammar.specs.Rule.{reads}
use Rattle.decl_grammar.specs.Symbols.{operator, word}
use Rattle.decl_grammar.specs.TokenNames as token

-- { [ ] } . class
unfoldable pub dims_class : Form Symbol
dims_class = behind (many bare_dim) dot_class

-- behind a name what is no further name
unfoldable pub chain_end : Form (Unit {0})
chain_end = either (turn silently array_class) (turn silently (pair plus_constant (many plus_constant)))

-- what begins all that may go on behind a name
abbrev pub chain_firsts : List ℕ
chain_firsts = operator token.dot ∷ operator token.open_bracket ∷ operator token.plus ∷ []

-- `.`, and `class` or a name: whether what goes on behind a name begins there
abbrev pub chain_step : ℕ → List Symbol → Outcome Bool
chain_step room ts =
    one_at (operator token.dot ∷ []) ts >>= λ s rest. if starts (word token.class ∷ []) rest then (one_at (word token.class ∷ []) rest >>= λ z after. done false after)
    else (reads room name rest >>= λ n after. done (starts chain_firsts after) after)

-- a constant form that is no array and no annotation
unfoldable pub plain_value_form : Form ValueText
plain_value_form = turn plain_value (seen as_written plain_form)
