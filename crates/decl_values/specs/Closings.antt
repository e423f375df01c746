-- What is read where one symbol ends a value, and within the bound of a wildcard.
use Rattle.std.specs.Prelude.{ℕ, List, [], ◌∷◌}
use Rattle.apt_base.specs.declared.around.Around.{Around}
use Rattle.decl_tree.specs.declared.type_text.TypeText.{TypeText}
use Rattle.decl_grammar.specs.declared.symbol.Symbol.{Symbol}
use Rattle.decl_grammar.specs.Reading.{Outcome, one_at}
use Rattle.decl_grammar.specs.Form.{turned}
use Rattle.decl_grammar.specs.Rows.{read_as}
use Rattle.decl_grammar.specs.Types.{annotated_reference, bounded}

-- a value, where a symbol of this sort stands behind it
abbrev pub ended_by : {A : Type 0} → A → ℕ → List Symbol → Outcome A
ended_by x sort ts = turned (λ s. x) (one_at (sort ∷ []) ts)

-- a reference type within `extends` or `super`
abbrev pub bound_read : Around → ℕ → List Symbol → Outcome TypeText
bound_read item room ts = read_as (bounded item) room annotated_reference ts
