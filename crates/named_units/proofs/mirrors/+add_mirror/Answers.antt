use Rattle.std.proofs.Common.{◌+◌, drop, sym, ap, ◌∙◌}
use Rattle.std.specs.List.{flat_map}
use Rattle.apt_base.specs.Names.{NameSet}
use Rattle.child_questions.specs.Verdicts.{elements_of}
use Rattle.named_units.specs.Named.{with_units}
use Rattle.named_units.proofs.NamedUnits.{mirrors_left}
use Rattle.named_units.proofs.mirrors.+add_mirror.Goals as goal

pub add_mirrors-loop-each-preserved : goal.add_mirrors-loop-each-preserved
add_mirrors-loop-each-preserved t c =
    let mirrors = c.args.mirrors.now in
    let i = c.loop-each.each-index in
    ap (λ (names : NameSet). with_units names (flat_map elements_of (drop (i + 1) mirrors))) c.in_ok-add_mirror.ensures
    ∙ sym (mirrors_left c.loop-each.names mirrors i c.each-item.result c.loop-each-test.true c.each-item.is)
    ∙ c.loop-each.invariant
