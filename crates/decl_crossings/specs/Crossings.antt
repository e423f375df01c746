-- How many fields of one declaration begin within some symbols. A field begins at its name: with a `;` behind the name the declaration is whole.
use Rattle.std.specs.Prelude.{◌≡◌, ℕ, ◌<◌, List, [], ◌∷◌, ◌++◌, length, Option}
use Rattle.decl_tree.specs.declared.annotation.ValueText.{ValueText}
use Rattle.decl_grammar.specs.declared.symbol.Symbol.{Symbol}
use Rattle.decl_grammar.specs.declared.written.Declarator.{Declarator}
use Rattle.decl_grammar.specs.Symbols.{operator}
use Rattle.decl_grammar.specs.TokenNames as token
use Rattle.decl_grammar.specs.Form.{Form, After, Rest, nest, initialiser, expression_rest, value_end, assigned, anywhere}
use Rattle.decl_grammar.specs.Expressions.{value_or_end}
use Rattle.decl_grammar.specs.File.{IsPhrase}
use Rattle.decl_limits.specs.Children.{blank}

-- this holds of some front of the symbols
abbrev pub SomeFront : (List Symbol → Type 0) → List Symbol → Type 0
SomeFront p ts = (us : List Symbol) × (vs : List Symbol) × (ts ≡ us ++ vs) × p us

-- the symbols with a `;` behind them
abbrev pub closed : List Symbol → List Symbol
closed us = us ++ blank (operator token.semicolon) ∷ []

-- With a `;` behind them the symbols are this form, and declare more than this many.
abbrev pub Declares : {A : Type 0} → Form A → (A → List Declarator) → ℕ → List Symbol → Type 0
Declares {A} f behind n us = (x : A) × IsPhrase f (closed us) x × (n < length (behind x))

abbrev pub behind_value : Option ValueText × List Declarator → List Declarator
behind_value x = x.1

abbrev pub behind_rest : Rest assigned → List Declarator
behind_rest x = x.1

abbrev pub behind_end : List Declarator → List Declarator
behind_end ds = ds

-- More further fields than this many begin: behind a name and its brackets, in an initialiser that begins here, in the rest of one, and where one ends.
abbrev pub FieldCrosses : ℕ → List Symbol → Type 0
FieldCrosses n ts = SomeFront (Declares value_or_end behind_value n) ts

abbrev pub InitialiserCrosses : ℕ → List Symbol → Type 0
InitialiserCrosses n ts = SomeFront (Declares (nest initialiser) behind_value n) ts

abbrev pub RestCrosses : ℕ → After → List Symbol → Type 0
RestCrosses n a ts = SomeFront (Declares (nest (expression_rest assigned anywhere a)) behind_rest n) ts

abbrev pub EndCrosses : ℕ → List Symbol → Type 0
EndCrosses n ts = SomeFront (Declares (nest (value_end assigned)) behind_end n) ts
