use Rattle.type_listing.proofs.RememberedTypes.{right-none}
use Rattle.type_listing.proofs.remembered.Remembered.new.Goals as goal

pub invariant_of-result : goal.invariant_of-result
invariant_of-result c = right-none _ c.new-2.result.entries c.new-2.ensures.empty
