use Rattle.std.proofs.Common.{string_bytes, sym, ap, ◌∙◌}
use Rattle.std.specs.BTreeMap.{get_by_text}
use Rattle.type_listing.specs.Listings.{Places}
use Rattle.type_listing.proofs.PlacesByText.{next_place, same_place, refused}
use Rattle.type_listing.proofs.listing.add_place.Goals as goal

pub returns-in_err-push-in-Some-clause-err : goal.returns-in_err-push-in-Some-clause-err
returns-in_err-push-in-Some-clause-err c =
    refused c.from_residual.result
    (same_place c.args.places.now (c.get_mut.follows.lender c.push.new.self) c.as_str.result.now c.in-Some.found.now c.push.new.self
    (sym c.in-Some.ensures.value) c.in_err-push-in-Some.ensures.items (c.get_mut.follows.holds c.push.new.self).3)

pub returns-in_ok-push-in-Some-clause-ok : goal.returns-in_ok-push-in-Some-clause-ok
returns-in_ok-push-in-Some-clause-ok c =
    next_place c.args.places.now (c.get_mut.follows.lender c.push.new.self) c.as_str.result.now (string_bytes c.args.key) c.in-Some.found.now c.push.new.self
    c.args.place c.as_str.ensures.value (sym c.in-Some.ensures.value) c.in_ok-push-in-Some.ensures.items (c.get_mut.follows.holds c.push.new.self).3

pub begin_places-requires : goal.begin_places-requires
begin_places-requires c =
    ap (λ (m : Places). get_by_text m (string_bytes c.args.key)) c.get_mut.follows.holds-at-none
    ∙ ap (get_by_text c.args.places.now) (sym c.as_str.ensures.value)
    ∙ sym c.in-None.ensures.value
