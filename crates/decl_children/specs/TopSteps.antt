-- What a walk over the top-level types of a file says (JLS 7.6).
use Rattle.std.specs.Prelude.{◌≤◌, List, length, Option}
use Rattle.decl_grammar.specs.declared.symbol.Symbol.{Symbol}
use Rattle.decl_grammar.specs.declared.written.Modifiers.{Modifiers}
use Rattle.decl_grammar.specs.declared.written.TypeAt.{TypeAt}
use Rattle.decl_grammar.specs.Types.{type_modifiers}
use Rattle.decl_grammar.specs.Grammar.{top_type}
use Rattle.decl_limits.specs.Children.{Then}
use Rattle.decl_children.specs.Fronts.{SomeFront, Passes}
use Rattle.decl_children.specs.Members.{InType, TypesCrowd}

-- modifiers and a type behind them, which is full
abbrev pub TopCrowds : List Symbol → Type 0
TopCrowds ts = SomeFront (Then type_modifiers (λ (m : Modifiers) us. InType us)) ts

-- a type with its modifiers, or a `;`, ends before these symbols
abbrev pub TopEnds : List Symbol → List Symbol → Type 0
TopEnds ts rest = (x : Option TypeAt) × Passes top_type ts x rest

-- In symbols no more than there were: all types are full just where these are.
abbrev pub TypesSame : List Symbol → List Symbol → Type 0
TypesSame symbols ts = (length ts ≤ length symbols) × (TypesCrowd symbols → TypesCrowd ts) × (TypesCrowd ts → TypesCrowd symbols)
