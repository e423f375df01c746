use Rattle.std.proofs.Common.{[], ◌∷◌, ◌++◌}
use Rattle.decl_grammar.specs.Form.{ats, names}
use Rattle.decl_grammar.proofs.Ranges.{starts_then, starts_else}
use Rattle.decl_members.proofs.enums.starts_constants.Goals as goal

pub returns-then-starts_constant : goal.returns-then-starts_constant
returns-then-starts_constant c = starts_then (ats ++ names) (68 ∷ []) c.args.symbols.now c.starts_constant.result c.starts_constant.ensures c.if-starts_constant.true

pub returns-else-starts_constant : goal.returns-else-starts_constant
returns-else-starts_constant c = starts_else (ats ++ names) (68 ∷ []) c.args.symbols.now c.starts_constant.result c.is_next.result c.starts_constant.ensures c.if-starts_constant.false c.is_next.ensures
