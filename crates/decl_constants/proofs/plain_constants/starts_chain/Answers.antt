use Rattle.std.proofs.Common.{[], ◌∷◌}
use Rattle.decl_grammar.proofs.Ranges.{starts_then, starts_else}
use Rattle.decl_constants.proofs.plain_constants.starts_chain.Goals as goal

pub returns-then-is_next : goal.returns-then-is_next
returns-then-is_next c = starts_then (69 ∷ []) (65 ∷ 89 ∷ []) c.args.symbols.now c.is_next.result c.is_next.ensures c.if-is_next.true

pub returns-else-is_next : goal.returns-else-is_next
returns-else-is_next c = starts_else (69 ∷ []) (65 ∷ 89 ∷ []) c.args.symbols.now c.is_next.result c.starts_chain_end.result c.is_next.ensures c.if-is_next.false c.starts_chain_end.ensures
