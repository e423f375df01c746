use Rattle.std.proofs.Common.{◌≡◌, ◌++◌}
use Rattle.type_elements.specs.MemberElements.{enclosed}
use Rattle.type_listing.specs.Listings.{listing_of}
use Rattle.type_listing.proofs.members.own_listing.Given as goal

-- the list so far, with the rest behind
abbrev pub invariant-loop-each : goal.invariant-loop-each
invariant-loop-each l = listing_of l.list.table (l.list.list ++ l.each-iterator.rest.items) ≡ listing_of l.table (enclosed l.table l.at)
