-- Who is asked in a round, and with which names (JSR 269, the discovery process).
-- The processors come in the order of discovery. Each is offered the present names that it supports, but for those that a processor before it claimed.
use Rattle.std.specs.Prelude.{ℕ, suc, Bool, false, not, ◌&&◌, ◌||◌, ◌==◌, ◌<◌, List, [], ◌∷◌, length, if◌then◌else◌}
use Rattle.std.specs.List.{list_any, AllByRecursion}
use Rattle.processor_claims.specs.declared.supported.Supported.{Supported}
use Rattle.processor_claims.specs.Patterns.{supports, supports_all}

-- what a round offers: its present names, or the empty set where no name is present. The last round offers neither
pub record Offer : Type 0 where
  pub names : List (List ℕ)
  pub empty_set : Bool

abbrev pub offer_of : List (List ℕ) → Bool → Offer
offer_of present last = record { names = if last then [] else present; empty_set = (length present == 0) && not last }

-- the positions, counted from `at`, of the names that pass
abbrev pub positions : (List ℕ → Bool) → ℕ → List (List ℕ) → List ℕ
positions test at [] = []
positions test at (name ∷ names) = if test name then at ∷ positions test (suc at) names else positions test (suc at) names

-- none of those that claimed supports the name
abbrev pub is_unclaimed : List (List (List ℕ)) → List ℕ → Bool
is_unclaimed claimers name = not (list_any (λ claimer. supports claimer name) claimers)

-- the names that a processor is offered, by their positions, where these others were asked before it and claimed
abbrev pub offered_to : List (List ℕ) → List (List (List ℕ)) → Offer → List ℕ
offered_to patterns claimers offer = positions (λ name. supports patterns name && is_unclaimed claimers name) 0 offer.names

-- the empty set goes to those that support `*`, until one of them claims it
abbrev pub has_empty_set : List (List (List ℕ)) → Offer → Bool
has_empty_set claimers offer = offer.empty_set && not (list_any supports_all claimers)

-- a processor is asked where something is offered to it, or where it was asked in an earlier round
abbrev pub is_asked : List (List ℕ) → Bool → List (List (List ℕ)) → Offer → Bool
is_asked patterns contributed claimers offer =
    not (length (offered_to patterns claimers offer) == 0) || (contributed || (has_empty_set claimers offer && supports_all patterns))

-- the answer of the one that is asked next, and the answers of those behind it. An answer that is not there is no
abbrev pub next_claim : List Bool → Bool
next_claim [] = false
next_claim (claim ∷ claims) = claim

abbrev pub later_claims : List Bool → List Bool
later_claims [] = []
later_claims (claim ∷ claims) = claims

-- those of the processors that are asked, each by its number, counted from `number`, with the positions of the names that it is offered.
-- `contributed` says which of them were asked in an earlier round, and `claims` what those that are asked answer
abbrev pub asked_from : ℕ → List (List (List ℕ)) → Offer → List Supported → List Bool → List Bool → List (ℕ × List ℕ)
asked_from number claimers offer [] contributed claims = []
asked_from number claimers offer (processor ∷ later) [] claims = []
asked_from number claimers offer (processor ∷ later) (contributed ∷ rest) claims =
    if is_asked processor.patterns contributed claimers offer
    then (number, offered_to processor.patterns claimers offer)
    ∷ (if next_claim claims then asked_from (suc number) (processor.patterns ∷ claimers) offer later rest (later_claims claims)
    else asked_from (suc number) claimers offer later rest (later_claims claims))
    else asked_from (suc number) claimers offer later rest claims

-- who is asked in a round with these present names, and with which of them
unfoldable pub asked : List Supported → List Bool → List (List ℕ) → Bool → List Bool → List (ℕ × List ℕ)
asked processors contributed present last claims = asked_from 0 [] (offer_of present last) processors contributed claims

-- each number is one of this many processors, and each position one of this many names
abbrev pub AreWithin : ℕ → ℕ → List (ℕ × List ℕ) → Type 0
AreWithin processors names [] = Unit {0}
AreWithin processors names (one ∷ later) = ((one.0 < processors) × AllByRecursion (λ at. at < names) one.1) × AreWithin processors names later
