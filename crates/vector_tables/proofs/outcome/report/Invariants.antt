use Rattle.std.proofs.Common.{◌≡◌, take, string_bytes}
use Rattle.std.specs.List.{flat_map}
use Rattle.vector_tables.specs.Answers.{outcome_line}
use Rattle.vector_tables.proofs.outcome.report.Given as goal

-- the lines so far are those of the outcomes so far
abbrev pub invariant-loop-outcome : goal.invariant-loop-outcome
invariant-loop-outcome l = string_bytes l.text ≡ flat_map outcome_line (take l.outcome-index l.outcomes)
