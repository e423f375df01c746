use Rattle.std.proofs.Common.{◌≡◌, length}
use Rattle.processor_claims.specs.Lines.{trimmed_front}
use Rattle.processor_claims.proofs.lines.without_blanks_in_front.Given as goal

-- what is left decides
abbrev pub invariant-loop-first : goal.invariant-loop-first
invariant-loop-first l = trimmed_front l.rest ≡ trimmed_front l.text

abbrev pub decreases-loop-first : goal.decreases-loop-first
decreases-loop-first l = length l.rest
