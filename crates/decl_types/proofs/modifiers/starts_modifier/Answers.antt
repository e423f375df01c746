use Rattle.std.proofs.Common.{[], ◌∷◌}
use Rattle.decl_grammar.specs.Form.{modifier_words}
use Rattle.decl_grammar.proofs.Ranges.{starts_then, starts_else}
use Rattle.decl_types.proofs.modifiers.starts_modifier.Goals as goal

pub returns-then-starts_modifier_word : goal.returns-then-starts_modifier_word
returns-then-starts_modifier_word c = starts_then modifier_words (71 ∷ []) c.args.symbols.now c.starts_modifier_word.result c.starts_modifier_word.ensures c.if-starts_modifier_word.true

pub returns-else-starts_modifier_word : goal.returns-else-starts_modifier_word
returns-else-starts_modifier_word c = starts_else modifier_words (71 ∷ []) c.args.symbols.now c.starts_modifier_word.result c.is_next.result c.starts_modifier_word.ensures c.if-starts_modifier_word.false c.is_next.ensures
