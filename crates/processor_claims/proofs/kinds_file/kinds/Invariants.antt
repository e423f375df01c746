use Rattle.std.proofs.Common.{◌≡◌, ◌+◌, ◌≤◌, true, length}
use Rattle.processor_claims.specs.Lines.{lines, said, said_in, first_bad, readings}
use Rattle.processor_claims.specs.Kinds.{kind_in, kinds_of}
use Rattle.processor_claims.proofs.KindLaws.{gathered, differ}
use Rattle.processor_claims.proofs.kinds_file.kinds.Given as goal

abbrev pub invariant-loop-line : goal.invariant-loop-line
invariant-loop-line l = record {
  bad : first_bad kind_in (said l.number (lines l.rest)) ≡ first_bad kind_in (said_in l.bytes);
  all : gathered l.kinds (readings kind_in (said l.number (lines l.rest))) ≡ kinds_of l.bytes;
  once : differ l.kinds ≡ true;
  counted : l.number + length l.rest ≤ 1 + length l.bytes;
}

abbrev pub decreases-loop-line : goal.decreases-loop-line
decreases-loop-line l = length l.rest
