use Rattle.std.proofs.Common.{ap, ◌∙◌}
use Rattle.type_listing.specs.Listings.{Listed}
use Rattle.type_listing.proofs.listing.Listing.into_list.Goals as goal

pub returns : goal.returns
returns c = c.from_vec.ensures ∙ ap (λ (l : Listed). l.list) c.self.view_is
