use Rattle.std.proofs.Common.{◌≡◌, ◌+◌, ◌≤◌, length}
use Rattle.processor_claims.specs.Lines.{lines, said, said_in, first_bad, readings, name_in}
use Rattle.processor_claims.specs.Services.{names_of}
use Rattle.processor_claims.proofs.NameLaws.{gathered}
use Rattle.processor_claims.proofs.services.service_names.Given as goal

abbrev pub invariant-loop-line : goal.invariant-loop-line
invariant-loop-line l = record {
  bad : first_bad name_in (said l.number (lines l.rest)) ≡ first_bad name_in (said_in l.bytes);
  all : gathered l.names (readings name_in (said l.number (lines l.rest))) ≡ names_of l.bytes;
  counted : l.number + length l.rest ≤ 1 + length l.bytes;
}

abbrev pub decreases-loop-line : goal.decreases-loop-line
decreases-loop-line l = length l.rest
