use Rattle.std.proofs.Common.{◌≡◌, ◌++◌, length}
use Rattle.decl_members.proofs.made_members.copy_annotations.Given as goal

abbrev pub invariant-row : goal.invariant-row
invariant-row l = l.copies ++ l.rest ≡ l.fn.items

abbrev pub decreases-row : goal.decreases-row
decreases-row l = length l.rest
