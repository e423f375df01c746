use Rattle.std.proofs.Common.{[], ◌∷◌}
use Rattle.decl_grammar.specs.Form.{plain_words}
use Rattle.decl_grammar.proofs.Ranges.{starts_then, starts_else}
use Rattle.decl_types.proofs.modifiers.starts_plain_modifier.Goals as goal

pub returns-then-starts_plain_word : goal.returns-then-starts_plain_word
returns-then-starts_plain_word c = starts_then plain_words (71 ∷ []) c.args.symbols.now c.starts_plain_word.result c.starts_plain_word.ensures c.if-starts_plain_word.true

pub returns-else-starts_plain_word : goal.returns-else-starts_plain_word
returns-else-starts_plain_word c = starts_else plain_words (71 ∷ []) c.args.symbols.now c.starts_plain_word.result c.is_next.result c.starts_plain_word.ensures c.if-starts_plain_word.false c.is_next.ensures
