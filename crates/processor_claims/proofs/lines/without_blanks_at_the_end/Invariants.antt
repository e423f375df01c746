use Rattle.std.proofs.Common.{◌≡◌, length}
use Rattle.processor_claims.specs.Lines.{trimmed_end}
use Rattle.processor_claims.proofs.lines.without_blanks_at_the_end.Given as goal

-- what is left decides
abbrev pub invariant-loop-last : goal.invariant-loop-last
invariant-loop-last l = trimmed_end l.rest ≡ trimmed_end l.text

abbrev pub decreases-loop-last : goal.decreases-loop-last
decreases-loop-last l = length l.rest
