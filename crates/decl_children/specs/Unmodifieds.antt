-- Members behind their modifiers: how many each is, how many children it has of its own, and when the fields of one declaration are too many.
use Rattle.std.specs.Prelude.{◌≡◌, ℕ, ◌+◌, ◌<◌, Bool, true, false, List, [], ◌∷◌, ◌++◌, length, Result, Ok, Err, Option, Some, None}
use Rattle.apt_base.specs.Limits.{max_children}
use Rattle.decl_tree.specs.declared.declaration.TypeKind.{TypeKind}
use Rattle.decl_grammar.specs.declared.symbol.Symbol.{Symbol}
use Rattle.decl_grammar.specs.declared.written.Unmodified.{Unmodified}
use Rattle.decl_grammar.specs.declared.written.Unmodified.TheVariants as unmodified
use Rattle.decl_grammar.specs.Symbols.{operator}
use Rattle.decl_grammar.specs.TokenNames as token
use Rattle.decl_grammar.specs.Form.{Form, pair, turn, many}
use Rattle.decl_grammar.specs.Types.{name, dim, type_form, silently}
use Rattle.decl_grammar.specs.File.{IsPhrase}
use Rattle.decl_limits.specs.Children.{blank}
use Rattle.decl_children.specs.Fronts.{SomeFront}
use Rattle.decl_children.specs.TypeWalks.{unmodified_form}

-- how many members it gives
abbrev pub count_of : Unmodified → ℕ
count_of unmodified.Nothing = 0
count_of (unmodified.Fields of ds) = length ds
count_of (unmodified.Method ps of n s) = 1
count_of (unmodified.Constructor line ps s) = 1
count_of (unmodified.Nested rest) = 1

-- whether it is a constructor
abbrev pub constructs_one : Unmodified → Bool
constructs_one unmodified.Nothing = false
constructs_one (unmodified.Fields of ds) = false
constructs_one (unmodified.Method ps of n s) = false
constructs_one (unmodified.Constructor line ps s) = true
constructs_one (unmodified.Nested rest) = false

-- how many children a method or a constructor has
abbrev pub own_of : Unmodified → ℕ
own_of unmodified.Nothing = 0
own_of (unmodified.Fields of ds) = 0
own_of (unmodified.Method ps of n s) = length ps + length s.params.params
own_of (unmodified.Constructor line ps s) = length ps + length s.params.params
own_of (unmodified.Nested rest) = 0

-- a type, the name of a field and the brackets behind it
abbrev pub field_front : Form (Unit {0})
field_front = turn silently (pair type_form (pair name (many dim)))

-- With a `;` behind some front there are more fields than a type with this many children may have.
abbrev pub FieldsBehind : TypeKind → ℕ → List Symbol → Type 0
FieldsBehind k n ts =
    SomeFront (λ us. (u : Unmodified) × IsPhrase (unmodified_form k) (us ++ blank (operator token.semicolon) ∷ []) u × (max_children < n + count_of u)) ts

-- a whole method or constructor has too many children
abbrev pub OwnBehind : TypeKind → List Symbol → Type 0
OwnBehind k ts = SomeFront (λ us. (u : Unmodified) × IsPhrase (unmodified_form k) us u × (max_children < own_of u)) ts
