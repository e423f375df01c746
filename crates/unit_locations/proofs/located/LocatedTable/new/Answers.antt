use Rattle.unit_locations.proofs.LocatedLemmas.{located-new}
use Rattle.unit_locations.proofs.located.LocatedTable.new.Goals as goal

pub invariant_of-result : goal.invariant_of-result
invariant_of-result c = located-new c.new.result c.new-2.result c.new.ensures c.new-2.ensures
