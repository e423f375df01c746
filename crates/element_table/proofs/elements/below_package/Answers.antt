use Rattle.std.proofs.Common.{◌≡◌, false, length, None, sym, ◌∙◌}
use Rattle.std.specs.Prelude.{◌==◌}
use Rattle.element_table.proofs.Paths.{below_package}
use Rattle.element_table.proofs.elements.below_package.Goals as goal

pub returns-else-is_empty-clause-value : goal.returns-else-is_empty-clause-value
returns-else-is_empty-clause-value c =
    let some : (length c.args.path.now == 0) ≡ false = sym c.is_empty.ensures ∙ c.if-is_empty.false in
    sym (below_package c.args.path.now None some)
