use Rattle.std.proofs.Common.{sym, subst}
use Rattle.type_overriding.specs.Methods.{IsSignature, Seen, seen_of}
use Rattle.type_overriding.proofs.RememberedMethods.{signatures-more, signatures-same}
use Rattle.type_overriding.proofs.known_methods.KnownMethods.remember_signature.Goals as goal

pub invariant_of-self : goal.invariant_of-self
invariant_of-self c =
    signatures-same (seen_of c.self.inside.resolver c.self.inside.within.now c.self.inside.types) c.self.inside.known c.self.inside.signatures c.self.inside.below c.self.invariant
    c.insert.new.self c.in_err-insert.ensures.err

pub invariant_of-self-2 : goal.invariant_of-self-2
invariant_of-self-2 c =
    signatures-more (seen_of c.self.inside.resolver c.self.inside.within.now c.self.inside.types) c.self.inside.known c.self.inside.signatures c.self.inside.below c.self.invariant
    c.insert.new.self c.args.number c.args.found (λ q. c.in_ok-insert.ensures.updates.0 q)
    (subst (λ (s : Seen). IsSignature s c.args.number c.args.found) (sym c.self.view_is) c.requires)
