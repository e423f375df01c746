use Rattle.std.proofs.Common.{◌≡◌, drop}
use Rattle.std.specs.List.{list_any}
use Rattle.apt_base.specs.Elements.{same_element}
use Rattle.type_listing.specs.Listings.{member_at}
use Rattle.type_listing.proofs.members.is_among.Given as goal

-- it is at one of the places that are left exactly where it is at one of all
abbrev pub invariant-loop-place : goal.invariant-loop-place
invariant-loop-place l =
    list_any (λ place. same_element l.at (member_at l.list l.at place)) (drop l.place-index l.places)
    ≡ list_any (λ place. same_element l.at (member_at l.list l.at place)) l.places
