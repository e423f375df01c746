use Rattle.std.proofs.Common.{length, ◌≤◌}
use Rattle.decl_crossings.specs.Steps.{Alike, CrossesAt}
use Rattle.decl_crossings.proofs.walk.+crosses.Given as goal

abbrev pub decreases-crosses : goal.decreases-crosses
decreases-crosses l = length l.symbols.now

abbrev pub decreases-walk : goal.decreases-walk
decreases-walk l = length l.rest

abbrev pub invariant-walk : goal.invariant-walk
invariant-walk l = Alike (CrossesAt l.fn.spot l.fn.many l.fn.symbols) (CrossesAt l.at l.left l.rest) × (length l.rest ≤ length l.fn.symbols)
