-- The processors that a round may ask, with the positions of the names that each supports.
use Rattle.std.specs.Prelude.{ℕ, suc, Bool, List, [], ◌∷◌}
use Rattle.processor_claims.specs.declared.supported.Supported.{Supported}
use Rattle.processor_claims.specs.declared.turn.Candidate.{Candidate}
use Rattle.processor_claims.specs.Patterns.{supports, supports_all}
use Rattle.processor_claims.specs.Asked.{positions}

abbrev pub candidate_of : List (List ℕ) → ℕ → Supported → Bool → Candidate
candidate_of names number processor contributed =
    record { number = number; contributed = contributed; supports_all = supports_all processor.patterns; supported = positions (supports processor.patterns) 0 names }

abbrev pub candidates_of : List (List ℕ) → ℕ → List Supported → List Bool → List Candidate
candidates_of names number [] contributed = []
candidates_of names number (processor ∷ later) [] = []
candidates_of names number (processor ∷ later) (contributed ∷ rest) = candidate_of names number processor contributed ∷ candidates_of names (suc number) later rest
