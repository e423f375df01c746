use Rattle.type_overriding.proofs.RememberedMethods.{right-grown}
use Rattle.type_overriding.proofs.known_methods.KnownMethods.number.Goals as goal

pub invariant_of-self : goal.invariant_of-self
invariant_of-self c =
    right-grown c.self.inside.resolver c.self.inside.within.now c.self.inside.types c.number_for.new.types c.number_for.ensures.grows c.self.inside.known c.self.inside.signatures
    c.self.inside.below c.self.invariant
