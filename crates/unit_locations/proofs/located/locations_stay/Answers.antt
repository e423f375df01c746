use Rattle.unit_locations.proofs.LocationLaws.{locations-stay}
use Rattle.unit_locations.proofs.located.locations_stay.Goals as goal

pub returns : goal.returns
returns c = locations-stay
