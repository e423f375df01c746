use Rattle.std.proofs.Common.{◌≡◌, Bool, true, sym, ap, ◌∙◌}
use Rattle.type_mirror.specs.Substitution.{is_distinct}
use Rattle.type_mirror.proofs.Replacements.{AreDistinct-from_test, is_distinct-true}
use Rattle.type_mirror.proofs.substitution.are_distinct.Goals as goal

pub returns : goal.returns
returns c =
    let same : c.all_differ.result ≡ is_distinct c.args.by.now = c.all_differ.ensures ∙ ap is_distinct c.as_slice.ensures in
    (λ holds. AreDistinct-from_test c.args.by.now (sym same ∙ holds), λ distinct. same ∙ is_distinct-true c.args.by.now distinct)
