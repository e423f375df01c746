use Rattle.std.proofs.Common.{map, sym, ap, subst, ◌∙◌}
use Rattle.type_listing.specs.Listings.{member_at, AreWithin}
use Rattle.type_listing.proofs.PlacesByText.{none_named, some_named, some_within}
use Rattle.type_listing.proofs.listing.Listing.places.Goals as goal

pub returns-in-None-clause-named : goal.returns-in-None-clause-named
returns-in-None-clause-named c =
    none_named c.args.self.now c.self.inside.table.now c.self.inside.list.items c.self.inside.places c.self.view_is c.self.invariant
    c.args.at.now c.as_str.result.now (c.as_str.ensures.value ∙ c.in_ok-key.ensures) (sym c.in-None.ensures.value)

pub returns-clause-within : goal.returns-clause-within
returns-clause-within c =
    subst (AreWithin c.args.self.now) (sym c.as_slice.ensures.value)
    (some_within c.args.self.now c.self.inside.table.now c.self.inside.list.items c.self.inside.places c.self.view_is c.self.invariant
    c.args.at.now c.as_str.result.now (c.as_str.ensures.value ∙ c.in_ok-key.ensures) c.in-Some.places.now (sym c.in-Some.ensures.value))

pub returns-clause-named : goal.returns-clause-named
returns-clause-named c =
    ap (map (member_at c.args.self.now c.args.at.now)) c.as_slice.ensures.value
    ∙ some_named c.args.self.now c.self.inside.table.now c.self.inside.list.items c.self.inside.places c.self.view_is c.self.invariant
    c.args.at.now c.as_str.result.now (c.as_str.ensures.value ∙ c.in_ok-key.ensures) c.in-Some.places.now (sym c.in-Some.ensures.value)
