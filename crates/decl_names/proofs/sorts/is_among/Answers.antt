use Rattle.decl_grammar.proofs.Ranges.{range-below, range-within}
use Rattle.decl_names.proofs.sorts.is_among.Goals as goal

pub returns-then-sort-from : goal.returns-then-sort-from
returns-then-sort-from c = range-below c.args.from c.args.count c.args.sort c.if-sort-from.true

pub returns : goal.returns
returns c = range-within c.args.from c.args.count c.args.sort c.if-sort-from.false
