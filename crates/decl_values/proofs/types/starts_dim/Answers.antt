use Rattle.std.proofs.Common.{[], ◌∷◌}
use Rattle.decl_grammar.specs.Form.{ats}
use Rattle.decl_grammar.proofs.Ranges.{starts_then, starts_else}
use Rattle.decl_values.proofs.types.starts_dim.Goals as goal

pub returns-then-starts_annotation : goal.returns-then-starts_annotation
returns-then-starts_annotation c = starts_then ats (65 ∷ []) c.args.symbols.now c.starts_annotation.result c.starts_annotation.ensures c.if-starts_annotation.true

pub returns-else-starts_annotation : goal.returns-else-starts_annotation
returns-else-starts_annotation c = starts_else ats (65 ∷ []) c.args.symbols.now c.starts_annotation.result c.is_next.result c.starts_annotation.ensures c.if-starts_annotation.false c.is_next.ensures
