use Rattle.std.proofs.Common.{sym, ap, ◌∙◌}
use Rattle.type_overriding.specs.ByElements.{next_by_elements}
use Rattle.type_overriding.specs.Methods.{seen_of}
use Rattle.type_overriding.proofs.RememberedMethods.{right-searched}
use Rattle.type_overriding.proofs.known_methods.KnownMethods.search.Goals as goal

pub is_below_known-requires : goal.is_below_known-requires
is_below_known-requires c = c.self.invariant.same ∙ sym (ap next_by_elements c.table.ensures)

pub invariant_of-self : goal.invariant_of-self
invariant_of-self c =
    right-searched (seen_of c.self.inside.resolver c.self.inside.within.now c.self.inside.types) c.self.inside.known c.self.inside.signatures c.self.inside.below
    c.self.invariant c.is_below_known.new.known (c.is_below_known.ensures.same ∙ ap next_by_elements c.table.ensures)
