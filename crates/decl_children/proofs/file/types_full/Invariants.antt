use Rattle.std.proofs.Common.{length}
use Rattle.decl_children.specs.TopSteps.{TypesSame}
use Rattle.decl_children.proofs.file.types_full.Given as goal

abbrev pub invariant-row : goal.invariant-row
invariant-row l = TypesSame l.fn.symbols l.rest

abbrev pub decreases-row : goal.decreases-row
decreases-row l = length l.rest
