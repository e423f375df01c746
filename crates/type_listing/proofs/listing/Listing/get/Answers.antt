use Rattle.std.proofs.Common.{◌≡◌, length, vec_len, get_or, ap, ◌∙◌, arith, rules}
use Rattle.type_listing.specs.Listings.{Listed}
use Rattle.type_listing.proofs.listing.Listing.get.Goals as goal

pub index-requires : goal.index-requires
index-requires c =
    let same : length c.self.inside.list.items ≡ length c.args.self.now.list = ap (λ (l : Listed). length l.list) c.self.view_is in
    let count : vec_len c.self.inside.list ≡ length c.self.inside.list.items = search rules in
    omega arith

pub returns : goal.returns
returns c = c.index.ensures ∙ ap (λ (l : Listed). get_or l.list c.args.place c.index.result.now) c.self.view_is
