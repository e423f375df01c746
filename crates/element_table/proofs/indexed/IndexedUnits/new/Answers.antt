use Rattle.element_table.specs.MemberTypes.{ranges_of}
use Rattle.element_table.proofs.MemberLaws.{covers-empty}
use Rattle.element_table.proofs.indexed.IndexedUnits.new.Goals as goal

pub invariant_of-result : goal.invariant_of-result
invariant_of-result c = covers-empty (ranges_of c.new-2.result) c.new.result c.new.ensures
