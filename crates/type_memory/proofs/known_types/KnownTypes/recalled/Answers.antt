use Rattle.std.proofs.Common.{ℕ, List, Option, sym, subst}
use Rattle.type_memory.specs.Known.{Known, known_of}
use Rattle.type_memory.specs.Remembered.{AreDirect}
use Rattle.type_memory.proofs.RememberedSupertypes.{Had}
use Rattle.type_numbers.proofs.RememberedValues.{each-found}
use Rattle.type_memory.proofs.known_types.KnownTypes.recalled.Goals as goal

pub returns-in_ok-copy-in-Some : goal.returns-in_ok-copy-in-Some
returns-in_ok-copy-in-Some c =
    let known = known_of c.self.inside.resolver c.self.inside.types in
    subst (λ (k : Known). AreDirect k k c.args.number c.in_ok-copy-in-Some.copy) c.self.view_is
    (subst (λ (found : Option (List ℕ)). AreDirect known known c.args.number found) (sym c.in_ok-copy-in-Some.ensures)
    (each-found (Had known) c.self.inside.supertypes c.args.number c.in-Some.known.now c.self.invariant (sym c.in-Some.ensures.value)).1)
