use Rattle.type_levels.proofs.ContainmentLaws.{by_numbers}
use Rattle.type_levels.proofs.laws.contains_by_numbers.Goals as goal

pub returns : goal.returns
returns g c = by_numbers
