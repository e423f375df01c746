-- Rows of constant forms, as functions read them.
use Rattle.std.specs.Prelude.{◌≡◌, ℕ, Bool, true, false, List, [], ◌∷◌, Result, Ok, Err}
use Rattle.std.specs.Borrow.{Bor}
use Rattle.decl_tree.specs.declared.annotation.ValueText.{ValueText}
use Rattle.decl_grammar.specs.declared.symbol.Symbol.{Symbol}
use Rattle.decl_grammar.specs.declared.fault.ReadFault.{ReadFault}
use Rattle.decl_grammar.specs.Reading.{Outcome, done, Fails}
use Rattle.decl_grammar.specs.Form.{Form, constant_items, either, nest, turned}
use Rattle.decl_grammar.specs.Types.{sign, behind}
use Rattle.decl_grammar.specs.Expressions.{listed_end}
use Rattle.decl_grammar.specs.Rule.{read_nest}
use Rattle.decl_grammar.specs.TokenNames as token

-- behind the `{` of an array of constant forms, up to its `}`
unfoldable pub constant_rest : Form (List ValueText)
constant_rest = either listed_end (either (behind (sign token.comma) listed_end) (nest constant_items))

-- the constant forms of an array from one on
abbrev pub items_from : ℕ → List Symbol → Outcome (List ValueText)
items_from room ts = read_nest room constant_items ts

-- a constant form of an array, and the rest of them
abbrev pub ItemsRead : ℕ → List Symbol → ValueText → Bool → List Symbol → Type 0
ItemsRead room ts v true rest = items_from room ts ≡ turned (λ vs. v ∷ vs) (items_from room rest)
ItemsRead room ts v false rest = items_from room ts ≡ done (v ∷ []) rest

abbrev pub ConstantItem : ℕ → List Symbol → Result (ValueText × (Bool × Bor (List Symbol))) ReadFault → Type 0
ConstantItem room ts (Ok x) = ItemsRead room ts x.0 x.1.0 x.1.1.now
ConstantItem room ts (Err e) = Fails e (items_from room ts)
