use Rattle.std.proofs.Common.{ℕ, List, Option, sym, subst}
use Rattle.type_memory.specs.Known.{Known, IsKnown, known_of}
use Rattle.type_memory.specs.Remembered.{AreDirect}
use Rattle.type_memory.proofs.RememberedSupertypes.{Had, direct-over, supertypes-over}
use Rattle.type_numbers.proofs.RememberedValues.{each-more, each-same}
use Rattle.type_numbers.proofs.NumberLaws.{grown-known}
use Rattle.type_memory.proofs.known_types.KnownTypes.found.Goals as goal

pub invariant_of-self : goal.invariant_of-self
invariant_of-self c =
    supertypes-over c.self.inside.resolver c.direct_with.new.resolver c.self.inside.types c.direct_with.new.types c.direct_with.ensures.kept c.direct_with.ensures.grows c.self.inside.supertypes c.self.invariant

pub invariant_of-self-in_err-copy : goal.invariant_of-self-in_err-copy
invariant_of-self-in_err-copy c =
    supertypes-over c.self.inside.resolver c.direct_with.new.resolver c.self.inside.types c.direct_with.new.types c.direct_with.ensures.kept c.direct_with.ensures.grows c.self.inside.supertypes c.self.invariant

pub invariant_of-self-in_err-insert : goal.invariant_of-self-in_err-insert
invariant_of-self-in_err-insert c =
    each-same (Had (known_of c.direct_with.new.resolver c.direct_with.new.types)) c.self.inside.supertypes c.insert.new.self c.in_err-insert.ensures.err
    (supertypes-over c.self.inside.resolver c.direct_with.new.resolver c.self.inside.types c.direct_with.new.types c.direct_with.ensures.kept c.direct_with.ensures.grows c.self.inside.supertypes c.self.invariant)

pub invariant_of-self-2 : goal.invariant_of-self-2
invariant_of-self-2 c =
    let was = c.self.inside.resolver in
    let table = c.direct_with.new.resolver in
    let old = c.self.inside.types in
    let new = c.direct_with.new.types in
    let grows = c.direct_with.ensures.grows in
    let kept = c.direct_with.ensures.kept in
    let is_known = subst (λ (k : Known). IsKnown k c.args.number) (sym c.self.view_is) c.requires in
    let direct = direct-over was table old new kept grows c.args.number c.in_ok-found.found is_known c.in_ok-found.ensures.stands in
    each-more (Had (known_of table new)) c.self.inside.supertypes c.insert.new.self c.args.number c.in_ok-copy.copy
    (supertypes-over was table old new kept grows c.self.inside.supertypes c.self.invariant) (λ q. c.in_ok-insert.ensures.updates.0 q) (
      grown-known old new c.args.number grows is_known,
      subst (λ (found : Option (List ℕ)). AreDirect (known_of table new) (known_of table new) c.args.number found) (sym c.in_ok-copy.ensures) direct,
    )
