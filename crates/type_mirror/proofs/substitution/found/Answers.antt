use Rattle.std.proofs.Common.{sym, ◌∙◌}
use Rattle.type_mirror.proofs.Replacements.{replacement-at}
use Rattle.type_mirror.proofs.substitution.found.Goals as goal

pub returns : goal.returns
returns c =
    sym (replacement-at c.args.by.now _ c.in-Some.pair.now c.args.element.now c.requires (sym c.in-Some.ensures.value) (sym c.is_equal.ensures.tests ∙ c.if-is_equal.true))
