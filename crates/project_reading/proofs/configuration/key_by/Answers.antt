use Rattle.project_reading.proofs.Settling.{keys_same}
use Rattle.project_reading.proofs.configuration.key_by.Goals as goal

pub returns : goal.returns
returns c = keys_same c.args.settings c.in_ok-list.list c.new.result c.in_ok-list.ensures c.new.ensures
