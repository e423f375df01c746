use Rattle.std.proofs.Common.{[], ◌∷◌, ◌++◌}
use Rattle.decl_grammar.specs.Form.{ats, names, primitive_sorts}
use Rattle.decl_grammar.proofs.Ranges.{starts_then, starts_else}
use Rattle.decl_values.proofs.creations.starts_argument.Goals as goal

pub returns-then-starts_annotation : goal.returns-then-starts_annotation
returns-then-starts_annotation c = starts_then ats ((78 ∷ []) ++ (names ++ primitive_sorts)) c.args.symbols.now c.starts_annotation.result c.starts_annotation.ensures c.if-starts_annotation.true

pub returns-else-starts_annotation : goal.returns-else-starts_annotation
returns-else-starts_annotation c = starts_else ats ((78 ∷ []) ++ (names ++ primitive_sorts)) c.args.symbols.now c.starts_annotation.result c.starts_bare_argument.result c.starts_annotation.ensures c.if-starts_annotation.false c.starts_bare_argument.ensures
