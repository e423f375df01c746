use Rattle.java_tokens.proofs.LongestFronts.{IsTried}
use Rattle.java_tokens.proofs.fronts.longest_operator.Given as goal

abbrev pub invariant-loop-width : goal.invariant-loop-width
invariant-loop-width l = IsTried l.bytes l.width

abbrev pub decreases-loop-width : goal.decreases-loop-width
decreases-loop-width l = l.width
