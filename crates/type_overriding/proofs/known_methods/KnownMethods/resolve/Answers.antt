use Rattle.type_overriding.proofs.RememberedMethods.{right-over}
use Rattle.type_overriding.proofs.known_methods.KnownMethods.resolve.Goals as goal

pub invariant_of-self : goal.invariant_of-self
invariant_of-self c =
    right-over c.self.inside.resolver c.signature_in.new.resolver c.self.inside.within.now c.self.inside.types c.signature_in.new.types c.signature_in.ensures.kept c.signature_in.ensures.grows c.self.inside.known c.self.inside.signatures
    c.self.inside.below c.self.invariant
