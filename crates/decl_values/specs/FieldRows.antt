-- The fields of one declaration, from what stands behind a name on.
use Rattle.std.specs.Prelude.{ℕ, List, ◌∷◌}
use Rattle.apt_base.specs.declared.around.Around.{Around}
use Rattle.decl_grammar.specs.declared.symbol.Symbol.{Symbol}
use Rattle.decl_grammar.specs.declared.written.Declarator.{Declarator}
use Rattle.decl_grammar.specs.declared.written.NameAt.{NameAt}
use Rattle.decl_grammar.specs.Reading.{Outcome}
use Rattle.decl_grammar.specs.Form.{turned}
use Rattle.decl_grammar.specs.Expressions.{declarator_of, value_or_end}
use Rattle.decl_grammar.specs.Rule.{reads}

-- the fields from what stands behind this name and these brackets on
abbrev pub fields_from : ℕ → NameAt → List Around → List Symbol → Outcome (List Declarator)
fields_from room n ds ts = turned (λ v. declarator_of n ds v.0 ∷ v.1) (reads room value_or_end ts)
