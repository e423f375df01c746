use Rattle.std.proofs.Common.{◌≡◌, ◌+◌, ◌≤◌, length}
use Rattle.processor_claims.specs.Lines.{lines, said}
use Rattle.processor_claims.proofs.lines.next_said.Given as goal

-- the lines so far say nothing
abbrev pub invariant-loop-rest : goal.invariant-loop-rest
invariant-loop-rest l = record {
  same : said l.at (lines l.rest) ≡ said l.number (lines l.text);
  counted : l.at + length l.rest ≤ l.number + length l.text;
  behind : length l.rest ≤ length l.text;
}

abbrev pub decreases-loop-rest : goal.decreases-loop-rest
decreases-loop-rest l = length l.rest
