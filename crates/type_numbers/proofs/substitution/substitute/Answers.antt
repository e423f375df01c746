use Rattle.type_numbers.proofs.RememberedValues.{each-none}
use Rattle.type_numbers.specs.Replaced.{IsMade}
use Rattle.type_numbers.proofs.substitution.substitute.Goals as goal

pub replaced-requires-clause-so_far : goal.replaced-requires-clause-so_far
replaced-requires-clause-so_far c = each-none (IsMade c.args.types.now c.args.by.now) c.new-done.result c.new-done.ensures.empty
