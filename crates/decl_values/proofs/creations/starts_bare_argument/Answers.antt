use Rattle.std.proofs.Common.{[], ◌∷◌, ◌++◌}
use Rattle.decl_grammar.specs.Form.{names, primitive_sorts}
use Rattle.decl_grammar.proofs.Ranges.{starts_then, starts_else}
use Rattle.decl_values.proofs.creations.starts_bare_argument.Goals as goal

pub returns-then-is_next : goal.returns-then-is_next
returns-then-is_next c = starts_then (78 ∷ []) (names ++ primitive_sorts) c.args.symbols.now c.is_next.result c.is_next.ensures c.if-is_next.true

pub returns-else-is_next : goal.returns-else-is_next
returns-else-is_next c = starts_else (78 ∷ []) (names ++ primitive_sorts) c.args.symbols.now c.is_next.result c.starts_type.result c.is_next.ensures c.if-is_next.false c.starts_type.ensures
