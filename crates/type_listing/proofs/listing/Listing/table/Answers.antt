use Rattle.std.proofs.Common.{ap}
use Rattle.type_listing.specs.Listings.{Listed}
use Rattle.type_listing.proofs.listing.Listing.table.Goals as goal

pub returns : goal.returns
returns c = ap (λ (l : Listed). l.table) c.self.view_is
