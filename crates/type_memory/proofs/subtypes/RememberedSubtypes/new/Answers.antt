use Rattle.type_memory.proofs.RememberedAnswers.{right-none}
use Rattle.type_memory.proofs.subtypes.RememberedSubtypes.new.Goals as goal

pub invariant_of-result : goal.invariant_of-result
invariant_of-result c = right-none c.args.table.now c.new.result c.new-2.result c.new.ensures c.new-2.ensures.empty
