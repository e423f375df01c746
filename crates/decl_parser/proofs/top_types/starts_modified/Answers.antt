use Rattle.std.proofs.Common.{[], ◌∷◌, ◌++◌}
use Rattle.decl_grammar.specs.Form.{modifier_words, first_of, nested_type}
use Rattle.decl_grammar.proofs.Ranges.{starts_then, starts_else}
use Rattle.decl_parser.proofs.top_types.starts_modified.Goals as goal

pub returns-then-starts_modifier : goal.returns-then-starts_modifier
returns-then-starts_modifier c = starts_then (modifier_words ++ 71 ∷ []) (first_of nested_type) c.args.symbols.now c.starts_modifier.result c.starts_modifier.ensures c.if-starts_modifier.true

pub returns-else-starts_modifier : goal.returns-else-starts_modifier
returns-else-starts_modifier c = starts_else (modifier_words ++ 71 ∷ []) (first_of nested_type) c.args.symbols.now c.starts_modifier.result c.starts_type_word.result c.starts_modifier.ensures c.if-starts_modifier.false c.starts_type_word.ensures
