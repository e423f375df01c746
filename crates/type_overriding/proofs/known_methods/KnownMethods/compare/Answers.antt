use Rattle.type_overriding.proofs.RememberedMethods.{right-grown}
use Rattle.type_overriding.proofs.known_methods.KnownMethods.compare.Goals as goal

pub invariant_of-self : goal.invariant_of-self
invariant_of-self c =
    right-grown c.self.inside.resolver c.self.inside.within.now c.self.inside.types c.signature_of.new.types c.signature_of.ensures.grows c.self.inside.known c.self.inside.signatures
    c.self.inside.below c.self.invariant
