use Rattle.std.proofs.Common.{◌≡◌, drop}
use Rattle.std.specs.List.{list_all}
use Rattle.vector_tables.proofs.outcome.status.Given as goal

-- all passed where all that are left did
abbrev pub invariant-loop-outcome : goal.invariant-loop-outcome
invariant-loop-outcome l = list_all (λ o. o.passed) (drop l.outcome-index l.outcomes) ≡ list_all (λ o. o.passed) l.outcomes
