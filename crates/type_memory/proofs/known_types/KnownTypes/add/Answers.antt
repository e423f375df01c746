use Rattle.type_memory.proofs.RememberedSupertypes.{supertypes-grown}
use Rattle.type_memory.proofs.known_types.KnownTypes.add.Goals as goal

pub invariant_of-self : goal.invariant_of-self
invariant_of-self c = supertypes-grown c.self.inside.resolver c.self.inside.types c.add.new.self c.add.ensures.grows c.self.inside.supertypes c.self.invariant
