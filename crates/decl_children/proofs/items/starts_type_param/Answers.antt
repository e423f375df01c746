use Rattle.std.proofs.Common.{[]}
use Rattle.decl_grammar.specs.Form.{ats, names}
use Rattle.decl_grammar.proofs.Ranges.{starts_then, starts_else}
use Rattle.decl_children.proofs.items.starts_type_param.Goals as goal

pub returns-then-starts_annotation : goal.returns-then-starts_annotation
returns-then-starts_annotation c = starts_then ats names c.args.symbols.now c.starts_annotation.result c.starts_annotation.ensures c.if-starts_annotation.true

pub returns-else-starts_annotation : goal.returns-else-starts_annotation
returns-else-starts_annotation c = starts_else ats names c.args.symbols.now c.starts_annotation.result c.starts_name.result c.starts_annotation.ensures c.if-starts_annotation.false c.starts_name.ensures
