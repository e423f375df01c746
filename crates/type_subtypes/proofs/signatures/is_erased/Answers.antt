use Rattle.std.proofs.Common.{sym, ◌∙◌}
use Rattle.apt_base.specs.Limits.{max_type_steps}
use Rattle.type_subtypes.proofs.SignatureLaws.{erased-closed}
use Rattle.type_subtypes.proofs.signatures.is_erased.Goals as goal

pub returns-in-Some : goal.returns-in-Some
returns-in-Some c =
    erased-closed c.args.table.now max_type_steps c.args.one.now c.args.other.now c.in-Some.erased c.is_same.result c.of_test.result (sym c.in_ok-erasure_within.ensures ∙ c.in-Some.is)
    c.is_same.ensures c.of_test.ensures
