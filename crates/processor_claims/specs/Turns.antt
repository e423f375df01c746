-- What a turn stands for: who is still to be asked, and with what, whatever those that are asked answer.
use Rattle.std.specs.Prelude.{◌≡◌, ℕ, Bool, false, not, ◌&&◌, ◌||◌, ◌==◌, List, [], ◌∷◌, length, filter, slice_set, slice_index_or, if◌then◌else◌}
use Rattle.processor_claims.specs.declared.turn.Candidate.{Candidate}
use Rattle.processor_claims.specs.declared.turn.Turn.{Turn}
use Rattle.processor_claims.specs.Asked.{next_claim, later_claims, AreWithin}

-- the positions that the processor which is being asked is offered
abbrev pub offered : Turn → List ℕ
offered turn = turn.offered

-- the name at this position was not claimed
abbrev pub is_open : List Bool → ℕ → Bool
is_open unclaimed at = slice_index_or unclaimed at false

-- the names at these positions are claimed
abbrev pub claimed_at : List ℕ → List Bool → List Bool
claimed_at [] unclaimed = unclaimed
claimed_at (at ∷ more) unclaimed = claimed_at more (slice_set unclaimed at false)

abbrev pub left_for : Candidate → List Bool → List ℕ
left_for candidate unclaimed = filter (is_open unclaimed) candidate.supported

abbrev pub asks : Candidate → List Bool → Bool → Bool
asks candidate unclaimed empty_set = not (length (left_for candidate unclaimed) == 0) || (candidate.contributed || (empty_set && candidate.supports_all))

-- those of the candidates that are asked, each with what is left for it
abbrev pub coming_of : List Bool → Bool → List Candidate → List Bool → List (ℕ × List ℕ)
coming_of unclaimed empty_set [] claims = []
coming_of unclaimed empty_set (candidate ∷ later) claims =
    if asks candidate unclaimed empty_set
    then (candidate.number, left_for candidate unclaimed)
    ∷ (if next_claim claims
    then coming_of (claimed_at (left_for candidate unclaimed) unclaimed) (empty_set && not candidate.supports_all) later (later_claims claims)
    else coming_of unclaimed empty_set later (later_claims claims))
    else coming_of unclaimed empty_set later claims

-- who is asked from now on, where this is what the one that is being asked answers, and these are the answers of those behind it
unfoldable pub coming : Turn → Bool → List Bool → List (ℕ × List ℕ)
coming turn claimed claims =
    if claimed
    then coming_of (claimed_at turn.offered turn.unclaimed.items) (turn.empty_set && not turn.supports_all) turn.waiting.items claims
    else coming_of turn.unclaimed.items turn.empty_set turn.waiting.items claims

-- how many processors were not gone through yet
abbrev pub waiting_count : Turn → ℕ
waiting_count turn = length turn.waiting.items

-- whatever is answered, those are asked that this says of the answers
abbrev pub StandsFor : Turn → (List Bool → List (ℕ × List ℕ)) → Type 0
StandsFor turn asked = (claimed : Bool) (claims : List Bool) → coming turn claimed claims ≡ asked claims

-- the same, of a turn
abbrev pub IsComing : (List Bool → List (ℕ × List ℕ)) → Turn → Type 0
IsComing asked turn = StandsFor turn asked

-- whatever is answered, those that are asked are among this many processors, and offered some of this many names
abbrev pub IsWithin : ℕ → ℕ → Turn → Type 0
IsWithin processors names turn = (claimed : Bool) (claims : List Bool) → AreWithin processors names (coming turn claimed claims)

-- a turn in which this candidate is being asked
abbrev pub with_asked : Candidate → Turn → Turn
with_asked candidate turn = record turn { offered = left_for candidate turn.unclaimed.items; supports_all = candidate.supports_all }

-- nobody is asked any more, whatever is answered
abbrev pub IsOver : Turn → Type 0
IsOver turn = (claimed : Bool) (claims : List Bool) → coming turn claimed claims ≡ []

-- after this answer the next one is asked: the processor of that number with what the turn then offers, and behind it those of the turn then
abbrev pub Asks : Turn → Bool → ℕ → Turn → Type 0
Asks old claimed number new = (claims : List Bool) → coming old claimed claims ≡ (number, offered new) ∷ coming new (next_claim claims) (later_claims claims)

-- the turn after this answer: those who are still to be asked are the same, and the one that was asked before has no say any more
abbrev pub TakesAnswer : Turn → Bool → Turn → Type 0
TakesAnswer old claimed new = (claims : List Bool) → coming new false claims ≡ coming old claimed claims

-- after this answer nobody is asked
abbrev pub AsksNobody : Turn → Bool → Type 0
AsksNobody old claimed = (claims : List Bool) → coming old claimed claims ≡ []
