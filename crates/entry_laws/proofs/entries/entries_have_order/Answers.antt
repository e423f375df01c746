use Rattle.entry_laws.proofs.OrderWithin.{entries_have_order}
use Rattle.entry_laws.proofs.entries.entries_have_order.Goals as goal

pub returns : goal.returns
returns c = entries_have_order
