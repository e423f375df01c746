use Rattle.std.proofs.Common.{[], ◌∷◌, ◌++◌}
use Rattle.decl_grammar.specs.Form.{modifier_words, first_of, nested_type}
use Rattle.decl_grammar.proofs.Ranges.{starts_then, starts_else}
use Rattle.decl_parser.proofs.top_types.starts_top_type.Goals as goal

pub returns-then-is_next : goal.returns-then-is_next
returns-then-is_next c = starts_then (67 ∷ []) ((modifier_words ++ 71 ∷ []) ++ first_of nested_type) c.args.symbols.now c.is_next.result c.is_next.ensures c.if-is_next.true

pub returns-else-is_next : goal.returns-else-is_next
returns-else-is_next c = starts_else (67 ∷ []) ((modifier_words ++ 71 ∷ []) ++ first_of nested_type) c.args.symbols.now c.is_next.result c.starts_modified.result c.is_next.ensures c.if-is_next.false c.starts_modified.ensures
