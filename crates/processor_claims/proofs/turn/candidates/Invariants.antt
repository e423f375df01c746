use Rattle.std.proofs.Common.{◌≡◌, ◌++◌, drop}
use Rattle.processor_claims.specs.Candidates.{candidates_of}
use Rattle.processor_claims.proofs.turn.candidates.Given as goal

-- the candidates so far, and those to come
abbrev pub invariant-loop-number : goal.invariant-loop-number
invariant-loop-number l = l.list.items ++ candidates_of l.names l.number (drop l.number l.processors) (drop l.number l.contributed) ≡ candidates_of l.names 0 l.processors l.contributed
