use Rattle.std.proofs.Common.{ap}
use Rattle.type_listing.specs.Listings.{listing_of}
use Rattle.type_listing.proofs.PlacesByText.{no_places}
use Rattle.type_listing.proofs.listing.Listing.new.Goals as goal

pub invariant_of-result : goal.invariant_of-result
invariant_of-result c = no_places c.args.table.now c.new.result.items c.new-2.result c.new.ensures.items c.new-2.ensures.empty

pub returns : goal.returns
returns c = ap (listing_of c.args.table.now) c.new.ensures.items
