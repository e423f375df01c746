use Rattle.std.proofs.Common.{ap, ◌∙◌}
use Rattle.name_resolve.specs.Parts.{lent}
use Rattle.name_resolve.proofs.NameParts.{names-bare, names-around}
use Rattle.name_resolve.proofs.names.names_in.Goals as goal

pub returns-then-not-is_empty : goal.returns-then-not-is_empty
returns-then-not-is_empty c = ap lent c.new.ensures.items ∙ names-around c.args.text.now (c.if-not-is_empty.ensures)

pub returns : goal.returns
returns c = c.in_ok-names.ensures ∙ names-bare c.args.text.now c.if-not-is_empty.ensures
