use Rattle.std.proofs.Common.{sym, subst}
use Rattle.type_overriding.specs.Methods.{IsBelow, Seen, seen_of}
use Rattle.type_overriding.proofs.RememberedMethods.{below-found}
use Rattle.type_overriding.proofs.known_methods.KnownMethods.recalled_below.Goals as goal

pub returns-in-Some : goal.returns-in-Some
returns-in-Some c =
    subst (λ (s : Seen). IsBelow s c.args.number c.in-Some.answer.now) c.self.view_is
    (below-found (seen_of c.self.inside.resolver c.self.inside.within.now c.self.inside.types) c.self.inside.known c.self.inside.signatures c.self.inside.below c.self.invariant
    c.args.number c.in-Some.answer.now (sym c.in-Some.ensures.value))
