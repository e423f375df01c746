use Rattle.type_steps.proofs.NumberedEntries.{HasLeft, size_of}
use Rattle.type_steps.proofs.entries.replacements.Given as goal

-- the entries of the types so far, and the enclosing type that is left
abbrev pub invariant-loop-left : goal.invariant-loop-left
invariant-loop-left l = HasLeft l.table l.types l.number l.left l.by

abbrev pub decreases-loop-left : goal.decreases-loop-left
decreases-loop-left l = size_of l.left
