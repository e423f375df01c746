use Rattle.std.proofs.Common.{◌∙◌}
use Rattle.type_resolve.proofs.ScopesLemmas.{bare_parts-legal}
use Rattle.type_resolve.proofs.packages.bare_unit.Goals as goal

pub new-requires-6 : goal.new-requires-6
new-requires-6 c =
    let imports = c.in_ok-new.ensures ∙ c.new.ensures in
    let siblings = c.in_ok-new-2.ensures ∙ c.new-3.ensures in
    bare_parts-legal c.text.result.now _ _ _ _ c.text.ensures.legal c.in_ok-package.ensures imports siblings c.new-5.ensures
