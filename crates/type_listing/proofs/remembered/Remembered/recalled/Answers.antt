use Rattle.std.proofs.Common.{◌≡◌, Some, sym, ap, subst, ◌∙◌}
use Rattle.element_table.specs.TypeTable.{TypeTable}
use Rattle.type_listing.specs.Remembered.{AreMembers, known_at}
use Rattle.type_listing.specs.declared.known.KnownMembers.{KnownMembers}
use Rattle.type_listing.proofs.RememberedTypes.{right-found}
use Rattle.type_listing.proofs.remembered.Remembered.recalled.Goals as goal

pub returns : goal.returns
returns c =
    let at_key : known_at c.self.inside.known.entries c.in_ok-key.key.items ≡ Some c.in-Some.known.now =
    ap (known_at c.self.inside.known.entries) (sym c.as_slice.ensures.value) ∙ sym c.in-Some.ensures.value in
    subst (λ (t : TypeTable). AreMembers t c.args.at.now c.in_ok-copy-in-Some.copy) c.self.view_is
    (subst (λ (k : KnownMembers). AreMembers c.self.inside.resolver c.args.at.now k) (sym c.in_ok-copy-in-Some.ensures)
    (right-found c.self.inside.resolver c.self.inside.known.entries c.args.at.now c.in_ok-key.key c.in-Some.known.now c.self.invariant c.in_ok-key.ensures at_key))
