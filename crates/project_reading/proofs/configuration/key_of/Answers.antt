use Rattle.std.proofs.Common.{sym, ap, subst}
use Rattle.std.proofs.lemmas.Result.{err_from_is_err_and}
use Rattle.project_units.specs.Plans.{plan_of}
use Rattle.project_reading.specs.Configuration.{settings_in, settings_fit, plan_by}
use Rattle.project_reading.specs.Verdicts.{verdict}
use Rattle.project_reading.specs.Entering.{ComesAs, RefusesAs, shown_configuration}
use Rattle.project_reading.proofs.Refusing.{refuses_then, comes_behind}
use Rattle.project_reading.proofs.Settling.{key_whole}
use Rattle.project_reading.proofs.configuration.key_of.Goals as goal

pub returns-in_err-settings-clause-plan : goal.returns-in_err-settings-clause-plan
returns-in_err-settings-clause-plan c =
    let options = c.args.options.now in
    let here = shown_configuration c.args.raw.now in
    let status = c.in_err-settings.field-0.0 in
    let p = err_from_is_err_and c.from_residual.result c.from_residual.ensures.1 in
    subst (ComesAs (plan_by options here) plan_of) (sym p.1)
    (subst (RefusesAs (plan_by options here)) (sym (ap verdict p.2)) (refuses_then (settings_in options here) (verdict status) settings_fit c.in_err-settings.ensures.settings))

pub returns-clause-plan : goal.returns-clause-plan
returns-clause-plan c =
    comes_behind (settings_in c.args.options.now (shown_configuration c.args.raw.now)) c.in_ok-settings.settings settings_fit plan_of c.fitting.result c.in_ok-settings.ensures.settings c.fitting.ensures.plan

pub returns-clause-whole : goal.returns-clause-whole
returns-clause-whole c = key_whole c.args.options.now (shown_configuration c.args.raw.now) c.in_ok-settings.settings c.fitting.result c.in_ok-settings.ensures.settings c.fitting.ensures.whole
