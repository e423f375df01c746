use Rattle.std.proofs.Common.{◌≡◌, List, [], ◌∷◌, ◌++◌, length, string_bytes, sym, ap, subst, ◌∙◌, arith, rules}
use Rattle.apt_base.specs.declared.element.ElementRef.{ElementRef}
use Rattle.type_listing.specs.Listings.{Listed, listing_of, listed_with, AreIndexed}
use Rattle.type_listing.proofs.PlacesByText.{indexed-next, refused}
use Rattle.type_listing.proofs.PlacesOfNames.{indexed-same}
use Rattle.type_listing.proofs.listing.Listing.push.Goals as goal

pub invariant_of-self : goal.invariant_of-self
invariant_of-self c =
    subst (λ (xs : List ElementRef). AreIndexed c.self.inside.table.now xs c.self.inside.places) (sym c.reserve.ensures.items) c.self.invariant

pub returns-in_err-reserve-clause-err : goal.returns-in_err-reserve-clause-err
returns-in_err-reserve-clause-err c =
    refused c.from_residual-in_err-reserve.result (ap (listing_of c.self.inside.table.now) c.reserve.ensures.items ∙ c.self.view_is)

pub invariant_of-self-in_err-add_place : goal.invariant_of-self-in_err-add_place
invariant_of-self-in_err-add_place c =
    subst (λ (xs : List ElementRef). AreIndexed c.self.inside.table.now xs c.add_place.new.places) (sym c.reserve.ensures.items)
    (indexed-same c.self.inside.table.now c.self.inside.list.items c.self.inside.places c.add_place.new.places c.self.invariant c.in_err-add_place.ensures.err)

pub returns-in_err-add_place-clause-err : goal.returns-in_err-add_place-clause-err
returns-in_err-add_place-clause-err c =
    refused c.from_residual-in_err-add_place.result (ap (listing_of c.self.inside.table.now) c.reserve.ensures.items ∙ c.self.view_is)

pub invariant_of-self-in_err-push : goal.invariant_of-self-in_err-push
invariant_of-self-in_err-push c = absurd (omega (arith, c.in_err-push.ensures.full, c.in_ok-reserve.ensures.ok))

pub returns-in_err-push-clause-err : goal.returns-in_err-push-clause-err
returns-in_err-push-clause-err c = absurd (omega (arith, c.in_err-push.ensures.full, c.in_ok-reserve.ensures.ok))

pub invariant_of-self-2 : goal.invariant_of-self-2
invariant_of-self-2 c =
    let count : c.len-place.result ≡ length c.reserve.new.self.items = search rules in
    indexed-next c.self.inside.table.now c.self.inside.list.items c.reserve.new.self.items c.push.new.self.items c.args.at c.self.inside.places
    c.add_place.new.places (string_bytes c.in_ok-key.key) c.len-place.result
    c.reserve.ensures.items c.in_ok-push.ensures.items c.self.invariant c.in_ok-add_place.ensures.ok c.in_ok-key.ensures count

pub returns-clause-ok : goal.returns-clause-ok
returns-clause-ok c =
    ap (listing_of c.self.inside.table.now) (c.in_ok-push.ensures.items ∙ ap (λ (xs : List ElementRef). xs ++ c.args.at ∷ []) c.reserve.ensures.items)
    ∙ ap (λ (l : Listed). listed_with l c.args.at) c.self.view_is
