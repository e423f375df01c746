use Rattle.element_table.proofs.TableLaws.{empty_holds}
use Rattle.element_table.proofs.table.Table.new.Goals as goal

pub invariant_of-result : goal.invariant_of-result
invariant_of-result c = empty_holds c.new.result c.new-2.result c.new.ensures c.new-2.ensures
