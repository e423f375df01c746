use Rattle.project_config.proofs.SettledLaws.{settled-ok}
use Rattle.project_config.proofs.settings.read_settings.Goals as goal

pub returns-clause-settled : goal.returns-clause-settled
returns-clause-settled c = settled-ok c.settings_of.result c.args.file.now c.args.services.now c.args.kinds.now c.args.words.now c.settings_of.ensures
