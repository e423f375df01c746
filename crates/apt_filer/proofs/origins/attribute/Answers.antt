use Rattle.std.proofs.Common.{sym, ◌∙◌}
use Rattle.apt_filer.proofs.OriginLemmas.{missing, one, several}
use Rattle.apt_filer.proofs.origins.attribute.Goals as goal

pub returns-in_default : goal.returns-in_default
returns-in_default c = missing c.args.origins.now c.get.result c.in_default.is c.get.ensures.value

pub returns-then-are_in : goal.returns-then-are_in
returns-then-are_in c = one c.args.origins.now c.get.result c.in-Some.first c.in-Some.is c.get.ensures.value (sym c.are_in.ensures ∙ c.if-are_in.true)

pub returns : goal.returns
returns c = several c.args.origins.now c.get.result c.in-Some.first c.in-Some.is c.get.ensures.value (sym c.are_in.ensures ∙ c.if-are_in.false)
