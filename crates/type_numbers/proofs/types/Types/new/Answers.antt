use Rattle.type_numbers.proofs.HeldSteps.{held-none, types_of-none}
use Rattle.type_numbers.proofs.types.Types.new.Goals as goal

pub invariant_of-result : goal.invariant_of-result
invariant_of-result c = held-none c.new.result.items c.new-2.result.entries c.new.ensures.items c.new-2.ensures.empty

pub returns : goal.returns
returns c = types_of-none c.new.result.items c.new.ensures.items
