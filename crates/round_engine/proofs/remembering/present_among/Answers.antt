use Rattle.std.proofs.Common.{ap, ◌∙◌}
use Rattle.std.specs.FinMap as fin
use Rattle.apt_base.specs.Names.{names_in}
use Rattle.round_engine.specs.Remembering.{with_present}
use Rattle.round_engine.proofs.PresentNames.{present_is}
use Rattle.round_engine.proofs.remembering.present_among.Goals as goal

pub returns-clause-names : goal.returns-clause-names
returns-clause-names c =
    let r = c.args.round.now in
    c.in_ok-names.ensures ∙ ap names_in (c.in_ok-set.ensures ∙ ap (with_present fin.empty) c.requires) ∙ present_is r.table.table r.roots
