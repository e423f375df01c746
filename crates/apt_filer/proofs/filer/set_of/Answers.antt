use Rattle.std.proofs.Common.{ap, ◌∙◌}
use Rattle.std.specs.FinMap as fin
use Rattle.apt_base.specs.Names.{with_name}
use Rattle.apt_filer.proofs.FilerSets.{with_names-more}
use Rattle.apt_filer.proofs.filer.set_of.Goals as goal

pub loop-name-preserved : goal.loop-name-preserved
loop-name-preserved c =
    c.in_ok-insert.ensures.ok
    ∙ ap (with_name c.loop-name.set) c.as_str.ensures
    ∙ ap (λ set. with_name set c.name-item.result) c.loop-name.invariant
    ∙ with_names-more fin.empty c.args.names.now c.loop-name.name-index c.name-item.result c.loop-name-test.true c.name-item.is
