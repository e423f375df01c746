use Rattle.std.proofs.Common.{subst}
use Rattle.type_numbers.specs.Numbers.{AreDifferent}
use Rattle.type_numbers.proofs.HeldSteps.{same_number}
use Rattle.type_numbers.proofs.types.Types.is_equal.Goals as goal

pub returns : goal.returns
returns c = same_number c.args.self.now c.args.one c.args.other (subst AreDifferent c.self.view_is c.self.invariant.different) c.requires.0 c.requires.1
