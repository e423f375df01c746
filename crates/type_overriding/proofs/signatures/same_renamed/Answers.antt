use Rattle.std.proofs.Common.{sym, ap, subst, ◌∙◌}
use Rattle.type_numbers.proofs.NumberLaws.{grown-all_known}
use Rattle.type_numbers.specs.Replaced.{AreKnownIn, replacements_in}
use Rattle.type_overriding.proofs.SignaturesByNumbers.{renamed-paired}
use Rattle.type_overriding.proofs.signatures.same_renamed.Goals as goal

pub all_same-requires-clause-ones : goal.all_same-requires-clause-ones
all_same-requires-clause-ones c = grown-all_known c.args.types.now c.renamed.new.types c.args.parameters.now c.in_ok-by.ensures.grows c.requires.parameters

pub all_same-requires-clause-others : goal.all_same-requires-clause-others
all_same-requires-clause-others c = grown-all_known c.args.types.now c.renamed.new.types c.args.beside.now c.in_ok-by.ensures.grows c.requires.beside

pub all_same-requires-clause-by : goal.all_same-requires-clause-by
all_same-requires-clause-by c = subst (AreKnownIn c.renamed.new.types) (sym c.as_slice.ensures) c.in_ok-by.ensures.known

pub returns-clause-same : goal.returns-clause-same
returns-clause-same c =
    renamed-paired c.args.types.now c.renamed.new.types c.args.ones.now c.args.others.now c.args.parameters.now c.args.beside.now c.as_slice.result.now c.in_ok-same.same
    c.in_ok-by.ensures.grows c.requires.parameters c.requires.beside c.if-ones-others.false (ap (replacements_in c.renamed.new.types) c.as_slice.ensures ∙ c.in_ok-by.ensures.value)
    c.in_ok-same.ensures.same
