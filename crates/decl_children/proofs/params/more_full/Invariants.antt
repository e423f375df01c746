use Rattle.std.proofs.Common.{◌≤◌, length}
use Rattle.decl_children.specs.ParamReads.{TailCrowds}
use Rattle.decl_children.proofs.params.more_full.Given as goal

abbrev pub invariant-row : goal.invariant-row
invariant-row l = (length l.rest ≤ length l.fn.symbols) × (TailCrowds l.fn.before l.fn.symbols → TailCrowds l.count l.rest) × (TailCrowds l.count l.rest → TailCrowds l.fn.before l.fn.symbols)

abbrev pub decreases-row : goal.decreases-row
decreases-row l = length l.rest
