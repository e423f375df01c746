use Rattle.std.proofs.Common.{sym, subst}
use Rattle.type_overriding.specs.Methods.{IsBelow, Seen, seen_of}
use Rattle.type_overriding.proofs.RememberedMethods.{below-more, below-same}
use Rattle.type_overriding.proofs.known_methods.KnownMethods.remember_below.Goals as goal

pub invariant_of-self : goal.invariant_of-self
invariant_of-self c =
    below-same (seen_of c.self.inside.resolver c.self.inside.within.now c.self.inside.types) c.self.inside.known c.self.inside.signatures c.self.inside.below c.self.invariant
    c.insert.new.self c.in_err-insert.ensures.err

pub invariant_of-self-2 : goal.invariant_of-self-2
invariant_of-self-2 c =
    below-more (seen_of c.self.inside.resolver c.self.inside.within.now c.self.inside.types) c.self.inside.known c.self.inside.signatures c.self.inside.below c.self.invariant
    c.insert.new.self c.args.number c.args.answer (λ q. c.in_ok-insert.ensures.updates.0 q)
    (subst (λ (s : Seen). IsBelow s c.args.number c.args.answer) (sym c.self.view_is) c.requires)
