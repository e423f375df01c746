use Rattle.std.proofs.Common.{ap}
use Rattle.type_subtypes.specs.Subtypes.{next_of}
use Rattle.type_memory.proofs.RememberedAnswers.{right-grown}
use Rattle.type_memory.proofs.subtypes.RememberedSubtypes.add.Goals as goal

pub invariant_of-self : goal.invariant_of-self
invariant_of-self c =
    right-grown c.self.inside.table.now c.self.inside.known c.add.new.self c.self.inside.answers (ap next_of c.add.ensures.grows.table) c.add.ensures.grows.types
    c.self.invariant
