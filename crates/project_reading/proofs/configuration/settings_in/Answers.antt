use Rattle.std.proofs.Common.{◌≡◌, ◌≤◌, length, sym, subst, rules}
use Rattle.project_config.specs.Discovery.{settings_of}
use Rattle.project_reading.specs.Configuration.{said, settings_in}
use Rattle.project_reading.specs.Verdicts.{verdict}
use Rattle.project_reading.specs.Entering.{of_config, shown_configuration}
use Rattle.project_reading.proofs.Refusing.{refuses_or}
use Rattle.project_reading.proofs.Settling.{said_short, form_as, due_form, settings_are}
use Rattle.project_reading.proofs.configuration.settings_in.Goals as goal

pub read_settings-requires-clause-services : goal.read_settings-requires-clause-services
read_settings-requires-clause-services c = subst (λ bytes. length bytes ≤ 1048576) (sym c.said-services.ensures) (said_short c.args.raw.now.lists.services c.requires.lists.services)

pub read_settings-requires-clause-kinds : goal.read_settings-requires-clause-kinds
read_settings-requires-clause-kinds c = subst (λ bytes. length bytes ≤ 1048576) (sym c.said-kinds.ensures) (said_short c.args.raw.now.lists.kinds c.requires.lists.kinds)

pub returns-in-Ok-clause-settings : goal.returns-in-Ok-clause-settings
returns-in-Ok-clause-settings c =
    let options : c.as_slice.result.now ≡ c.args.options.now = search rules in
    settings_are c.args.options.now (shown_configuration c.args.raw.now) c.in-Ok.settings (rw (c.said-services.ensures, c.said-kinds.ensures, options) at c.in-Ok.ensures.answer)

pub returns-in-Err-clause-settings : goal.returns-in-Err-clause-settings
returns-in-Err-clause-settings c =
    let raw = c.args.raw.now in
    let options : c.as_slice.result.now ≡ c.args.options.now = search rules in
    refuses_or (settings_in c.args.options.now (shown_configuration raw)) (of_config c.in-Err.fault) (verdict c.refused.result)
    (form_as (settings_of raw.config (said raw.lists.services) (said raw.lists.kinds) c.args.options.now) c.in-Err.fault (rw (c.said-services.ensures, c.said-kinds.ensures, options) at c.in-Err.ensures.answer))
    c.refused.ensures.is

pub returns-in-Err-clause-due : goal.returns-in-Err-clause-due
returns-in-Err-clause-due c = due_form c.in-Err.fault (verdict c.refused.result) c.refused.ensures.is
