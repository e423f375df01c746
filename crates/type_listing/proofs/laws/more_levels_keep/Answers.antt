use Rattle.type_listing.proofs.MoreLevels.{more_levels}
use Rattle.type_listing.proofs.laws.more_levels_keep.Goals as goal

pub returns : goal.returns
returns c = more_levels
