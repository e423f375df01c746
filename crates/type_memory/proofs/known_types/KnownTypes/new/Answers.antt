use Rattle.type_memory.specs.Known.{known_of}
use Rattle.type_memory.proofs.RememberedSupertypes.{Had}
use Rattle.type_numbers.proofs.RememberedValues.{each-none}
use Rattle.type_memory.proofs.known_types.KnownTypes.new.Goals as goal

pub invariant_of-result : goal.invariant_of-result
invariant_of-result c = each-none (Had (known_of c.new.result c.new-2.result)) c.new-3.result c.new-3.ensures.empty
