use Rattle.std.proofs.Common.{◌≡◌, drop}
use Rattle.type_levels.specs.Answers.{either, any}
use Rattle.type_listing.specs.Listings.{member_at}
use Rattle.type_listing.specs.Members.{displaces}
use Rattle.type_listing.proofs.members.is_displaced.Given as goal

-- the answer so far, with those at the places that are left; the table and the type stay
abbrev pub invariant-loop-place : goal.invariant-loop-place
invariant-loop-place l =
    (l.methods ≡ l.fn.methods)
    × (either l.answer (any (λ place. displaces l.list.table l.fn.methods.element (member_at l.list l.at place) l.at) (drop l.place-index l.places))
    ≡ any (λ place. displaces l.list.table l.fn.methods.element (member_at l.list l.at place) l.at) l.places)
