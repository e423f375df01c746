use Rattle.std.proofs.Common.{List, sym, subst}
use Rattle.element_table.specs.TypeTable.{TypeTable}
use Rattle.type_listing.specs.Remembered.{AreMembers, AreRight, Key}
use Rattle.type_listing.specs.declared.known.KnownMembers.{KnownMembers}
use Rattle.type_listing.proofs.RememberedTypes.{right-more}
use Rattle.type_listing.proofs.remembered.Remembered.remember.Goals as goal

pub invariant_of-self : goal.invariant_of-self
invariant_of-self c =
    subst (λ (es : List (Key × KnownMembers)). AreRight c.self.inside.resolver es) (sym c.in_err-insert.ensures.err) c.self.invariant

pub invariant_of-self-2 : goal.invariant_of-self-2
invariant_of-self-2 c =
    right-more c.self.inside.resolver c.self.inside.known.entries c.insert.new.self.entries c.args.at.now c.in_ok-key.key c.args.known c.self.invariant
    c.in_ok-key.ensures (subst (λ (t : TypeTable). AreMembers t c.args.at.now c.args.known) (sym c.self.view_is) c.requires)
    (λ q. c.in_ok-insert.ensures.updates.0 q)
