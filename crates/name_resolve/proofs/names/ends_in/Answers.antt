use Rattle.std.proofs.Common.{◌∙◌}
use Rattle.name_resolve.proofs.NameParts.{ends-split}
use Rattle.name_resolve.proofs.names.ends_in.Goals as goal

pub returns-in-Some : goal.returns-in-Some
returns-in-Some c = c.eq.ensures ∙ ends-split c.args.names.now c.in-Some.field-0-1.now c.in-Some.last.now c.in-Some.ensures.cases.0 c.args.name.now
