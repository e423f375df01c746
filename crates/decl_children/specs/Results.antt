-- What stands behind the result of a method, which a constructor has not, and when a method or a constructor has too many children.
use Rattle.std.specs.Prelude.{◌≡◌, ℕ, true, false, List, [], ◌∷◌, drop, ◌⊎◌, Option, Some, None, Bool, ◌&&◌}
use Rattle.std.specs.Borrow.{Bor}
use Rattle.apt_base.specs.declared.around.Around.{Around}
use Rattle.decl_tree.specs.declared.type_text.BaseType.{BaseType}
use Rattle.decl_grammar.specs.declared.symbol.Symbol.{Symbol}
use Rattle.decl_grammar.specs.Reading.{starts, done}
use Rattle.decl_grammar.specs.Form.{Form, names, pair, turn, maybe, many, either}
use Rattle.decl_grammar.specs.Types.{keyword, name, silently, base_type, dim, type_form}
use Rattle.decl_grammar.specs.Rule.{reads}
use Rattle.decl_limits.specs.Children.{Then, IsFull, NextParam, ExecutableFull}
use Rattle.decl_children.specs.Fronts.{SomeFront}
use Rattle.decl_grammar.specs.Symbols.{operator, word}
use Rattle.decl_grammar.specs.TokenNames as token

-- a constructor's name, with the bracket of its parameters behind it
abbrev pub names_constructor : List Symbol → Bool
names_constructor ts = starts names ts && starts (operator token.open_parenthesis ∷ []) (drop 1 ts)

-- a type is read up to here
abbrev pub TypeRead : ℕ → List Symbol → List Symbol → Type 0
TypeRead room ts at = (of : BaseType) × (mid : List Symbol) × (ds : List Around) × (reads room base_type ts ≡ done of mid) × (reads room (many dim) mid ≡ done ds at)

-- behind `void` or a type, or at the name of a constructor
abbrev pub ResultRead : ℕ → List Symbol → List Symbol → Type 0
ResultRead room ts at =
    ((starts (word token.void ∷ []) ts ≡ true) × (at ≡ drop 1 ts))
    ⊎ ((starts (word token.void ∷ []) ts ≡ false) × (((names_constructor ts ≡ true) × (at ≡ ts)) ⊎ ((names_constructor ts ≡ false) × TypeRead room ts at)))

abbrev pub FindsAt : (List Symbol → Type 0) → Option (Bor (List Symbol)) → Type 0
FindsAt R (Some at) = R at.now
FindsAt R None = (at : List Symbol) → R at → ⊥

-- the result and the name of a method, or the name of a constructor
abbrev pub result_form : Form (Option (Unit {0}))
result_form = maybe (either (turn silently (keyword token.void)) (turn silently type_form))

abbrev pub NamedCrowds : ℕ → List Symbol → Type 0
NamedCrowds n ts = SomeFront (Then (pair result_form name) (λ x us. IsFull NextParam n us)) ts

abbrev pub ExecutableCrowds : List Symbol → Type 0
ExecutableCrowds ts = SomeFront ExecutableFull ts
