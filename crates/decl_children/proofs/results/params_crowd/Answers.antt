use Rattle.std.proofs.Common.{[], ◌∷◌, ◌∙◌, sym}
use Rattle.decl_grammar.specs.Reading.{starts}
use Rattle.decl_grammar.proofs.OneToken.{not_both}
use Rattle.decl_children.proofs.Executables.{params-open}
use Rattle.decl_children.proofs.results.params_crowd.Goals as goal

pub returns-then-not-is_next : goal.returns-then-not-is_next
returns-then-not-is_next c = λ t. not_both (starts (75 ∷ []) c.args.symbols.now) (params-open c.args.symbols.now t) (sym c.is_next.ensures ∙ c.if-not-is_next.true)
