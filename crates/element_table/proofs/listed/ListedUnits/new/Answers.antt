use Rattle.element_table.proofs.PackageLaws.{index-empty}
use Rattle.element_table.proofs.listed.ListedUnits.new.Goals as goal

pub invariant_of-result : goal.invariant_of-result
invariant_of-result c = index-empty c.new-2.result c.new.result c.new-2.ensures c.new.ensures
