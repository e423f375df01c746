use Rattle.type_layers.proofs.SameLaws.{decided_equal}
use Rattle.type_layers.proofs.equality.is_equal.Goals as goal

pub returns-clause-value : goal.returns-clause-value
returns-clause-value c = decided_equal c.args.one.now c.args.other.now c.equals.result c.equals.ensures
