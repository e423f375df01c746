-- A turn over positions asks those who are asked by names.
use Rattle.std.proofs.Common.{◌≡◌, ℕ, zero, suc, ◌+◌, ◌<◌, ◌≤◌, Bool, true, false, not, cond, ◌==◌, ◌&&◌, ◌||◌, List, [], ◌∷◌, length, filter, set, replicate, refl, ap, ◌∙◌, arith, get_or-set_other}
use Rattle.std.specs.List.{list_any}
use Rattle.std.proofs.lemmas.List.{get_or-replicate}
use Rattle.processor_claims.specs.declared.supported.Supported.{Supported}
use Rattle.processor_claims.specs.declared.turn.Candidate.{Candidate}
use Rattle.processor_claims.specs.declared.turn.Turn.{Turn}
use Rattle.processor_claims.specs.Patterns.{supports, supports_all}
use Rattle.processor_claims.specs.Asked.{Offer, offer_of, positions, is_unclaimed, offered_to, has_empty_set, is_asked, next_claim, later_claims, asked_from, asked}
use Rattle.processor_claims.specs.Candidates.{candidates_of}
use Rattle.processor_claims.specs.Turns.{is_open, claimed_at, left_for, asks, coming_of, coming}

abbrev Patterns : Type 0
Patterns = List (List ℕ)

-- from a position on, the names that are open are those that nobody claimed
abbrev Agrees : List Bool → List Patterns → ℕ → List (List ℕ) → Type 0
Agrees unclaimed claimers at [] = Unit {0}
Agrees unclaimed claimers at (name ∷ names) = (is_open unclaimed at ≡ is_unclaimed claimers name) × Agrees unclaimed claimers (suc at) names

off : (unclaimed : List Bool) (at : ℕ) → is_open (set unclaimed at false) at ≡ false
off [] at = refl
off (x ∷ xs) zero = refl
off (x ∷ xs) (suc at) = off xs at

other : (unclaimed : List Bool) (i at : ℕ) → i < at → is_open (set unclaimed at false) i ≡ is_open unclaimed i
other unclaimed i at below = get_or-set_other unclaimed at i false false (λ same. absurd (omega arith))

-- what is left of the positions that pass
left : (test : List ℕ → Bool) (unclaimed : List Bool) (claimers : List Patterns) (at : ℕ) (names : List (List ℕ)) → Agrees unclaimed claimers at names
    → filter (is_open unclaimed) (positions test at names) ≡ positions (λ name. test name && is_unclaimed claimers name) at names
left test unclaimed claimers at [] agrees = refl
left test unclaimed claimers at (name ∷ names) agrees = by (left test unclaimed claimers (suc at) names agrees.1) (test name) (is_unclaimed claimers name) agrees.0
  where
    by : filter (is_open unclaimed) (positions test (suc at) names) ≡ positions (λ n. test n && is_unclaimed claimers n) (suc at) names → (t u : Bool) → is_open unclaimed at ≡ u
        → filter (is_open unclaimed) (cond t (at ∷ positions test (suc at) names) (positions test (suc at) names))
        ≡ cond (t && u) (at ∷ positions (λ n. test n && is_unclaimed claimers n) (suc at) names) (positions (λ n. test n && is_unclaimed claimers n) (suc at) names)
    by later true true e = rw e (ap (λ rest. at ∷ rest) later)
    by later true false e = rw e later
    by later false u e = later

-- positions from a place on leave the places below it
below : (test : List ℕ → Bool) (from : ℕ) (names : List (List ℕ)) (unclaimed : List Bool) (i : ℕ) → i < from → is_open (claimed_at (positions test from names) unclaimed) i ≡ is_open unclaimed i
below test from [] unclaimed i lt = refl
below test from (name ∷ names) unclaimed i lt =
    let further : i < suc from = omega arith in
    by (below test (suc from) names (set unclaimed from false) i further ∙ other unclaimed i from lt) (below test (suc from) names unclaimed i further) (test name)
  where
    by : is_open (claimed_at (positions test (suc from) names) (set unclaimed from false)) i ≡ is_open unclaimed i
        → is_open (claimed_at (positions test (suc from) names) unclaimed) i ≡ is_open unclaimed i
        → (t : Bool) → is_open (claimed_at (cond t (from ∷ positions test (suc from) names) (positions test (suc from) names)) unclaimed) i ≡ is_open unclaimed i
    by taken kept true = taken
    by taken kept false = kept

-- a claimed place leaves the places behind it
behind : (at : ℕ) (unclaimed : List Bool) (claimers : List Patterns) (from : ℕ) (names : List (List ℕ)) → at < from → Agrees unclaimed claimers from names → Agrees (set unclaimed at false) claimers from names
behind at unclaimed claimers from [] lt agrees = tt
behind at unclaimed claimers from (name ∷ names) lt agrees =
    let further : at < suc from = omega arith in
    (get_or-set_other unclaimed at from false false (λ same. absurd (omega arith)) ∙ agrees.0, behind at unclaimed claimers (suc from) names further agrees.1)

-- after a claim
claimed : (patterns : Patterns) (claimers : List Patterns) (at : ℕ) (names : List (List ℕ)) (unclaimed : List Bool) → Agrees unclaimed claimers at names
    → Agrees (claimed_at (positions (λ name. supports patterns name && is_unclaimed claimers name) at names) unclaimed) (patterns ∷ claimers) at names
claimed patterns claimers at [] unclaimed agrees = tt
claimed patterns claimers at (name ∷ names) unclaimed agrees =
    let one : at < suc at = omega arith in
    by one (claimed patterns claimers (suc at) names (set unclaimed at false) (behind at unclaimed claimers (suc at) names one agrees.1))
    (claimed patterns claimers (suc at) names unclaimed agrees.1)
    (supports patterns name) refl (list_any (λ claimer. supports claimer name) claimers) refl
  where
    by : at < suc at
        → Agrees (claimed_at (positions (λ n. supports patterns n && is_unclaimed claimers n) (suc at) names) (set unclaimed at false)) (patterns ∷ claimers) (suc at) names
        → Agrees (claimed_at (positions (λ n. supports patterns n && is_unclaimed claimers n) (suc at) names) unclaimed) (patterns ∷ claimers) (suc at) names
        → (s : Bool) → supports patterns name ≡ s → (any : Bool) → list_any (λ claimer. supports claimer name) claimers ≡ any
        → (is_open (claimed_at (cond (s && not any) (at ∷ positions (λ n. supports patterns n && is_unclaimed claimers n) (suc at) names) (positions (λ n. supports patterns n && is_unclaimed claimers n) (suc at) names)) unclaimed) at ≡ not (s || any))
        × Agrees (claimed_at (cond (s && not any) (at ∷ positions (λ n. supports patterns n && is_unclaimed claimers n) (suc at) names) (positions (λ n. supports patterns n && is_unclaimed claimers n) (suc at) names)) unclaimed) (patterns ∷ claimers) (suc at) names
    by one taken kept true e false f = (
      below (λ n. supports patterns n && is_unclaimed claimers n) (suc at) names (set unclaimed at false) at one ∙ off unclaimed at,
      taken,
    )
    by one taken kept true e true f = (
      below (λ n. supports patterns n && is_unclaimed claimers n) (suc at) names unclaimed at one ∙ agrees.0 ∙ ap not f,
      kept,
    )
    by one taken kept false e any f = (
      below (λ n. supports patterns n && is_unclaimed claimers n) (suc at) names unclaimed at one ∙ agrees.0 ∙ ap not f,
      kept,
    )

empty_claimed : (e any s : Bool) → ((e && not any) && not s) ≡ (e && not (s || any))
empty_claimed true true true = refl
empty_claimed true true false = refl
empty_claimed true false true = refl
empty_claimed true false false = refl
empty_claimed false any s = refl

-- the candidates are asked as the processors are
coming_of-asked : (offer : Offer) (number : ℕ) (claimers : List Patterns) (processors : List Supported) (contributed : List Bool) (unclaimed : List Bool) (empty_set : Bool) (claims : List Bool)
    → Agrees unclaimed claimers 0 offer.names → empty_set ≡ has_empty_set claimers offer
    → coming_of unclaimed empty_set (candidates_of offer.names number processors contributed) claims ≡ asked_from number claimers offer processors contributed claims
coming_of-asked offer number claimers [] contributed unclaimed empty_set claims agrees empty = refl
coming_of-asked offer number claimers (p ∷ ps) [] unclaimed empty_set claims agrees empty = refl
coming_of-asked offer number claimers (p ∷ ps) (c ∷ cs) unclaimed empty_set claims agrees empty =
    rw (left (supports p.patterns) unclaimed claimers 0 offer.names agrees, empty) (by
    (coming_of-asked offer (suc number) (p.patterns ∷ claimers) ps cs (claimed_at (offered_to p.patterns claimers offer) unclaimed) (has_empty_set claimers offer && not (supports_all p.patterns)) (later_claims claims)
    (claimed p.patterns claimers 0 offer.names unclaimed agrees) (empty_claimed offer.empty_set (list_any supports_all claimers) (supports_all p.patterns)))
    (coming_of-asked offer (suc number) claimers ps cs unclaimed (has_empty_set claimers offer) (later_claims claims) agrees refl)
    (coming_of-asked offer (suc number) claimers ps cs unclaimed (has_empty_set claimers offer) claims agrees refl)
    (is_asked p.patterns c claimers offer) (next_claim claims))
  where
    by : coming_of (claimed_at (offered_to p.patterns claimers offer) unclaimed) (has_empty_set claimers offer && not (supports_all p.patterns)) (candidates_of offer.names (suc number) ps cs) (later_claims claims)
        ≡ asked_from (suc number) (p.patterns ∷ claimers) offer ps cs (later_claims claims)
        → coming_of unclaimed (has_empty_set claimers offer) (candidates_of offer.names (suc number) ps cs) (later_claims claims) ≡ asked_from (suc number) claimers offer ps cs (later_claims claims)
        → coming_of unclaimed (has_empty_set claimers offer) (candidates_of offer.names (suc number) ps cs) claims ≡ asked_from (suc number) claimers offer ps cs claims
        → (b claim : Bool)
        → cond b ((number, offered_to p.patterns claimers offer)
        ∷ cond claim
        (coming_of (claimed_at (offered_to p.patterns claimers offer) unclaimed) (has_empty_set claimers offer && not (supports_all p.patterns)) (candidates_of offer.names (suc number) ps cs) (later_claims claims))
        (coming_of unclaimed (has_empty_set claimers offer) (candidates_of offer.names (suc number) ps cs) (later_claims claims)))
        (coming_of unclaimed (has_empty_set claimers offer) (candidates_of offer.names (suc number) ps cs) claims)
        ≡ cond b ((number, offered_to p.patterns claimers offer)
        ∷ cond claim (asked_from (suc number) (p.patterns ∷ claimers) offer ps cs (later_claims claims)) (asked_from (suc number) claimers offer ps cs (later_claims claims)))
        (asked_from (suc number) claimers offer ps cs claims)
    by claims_it claims_not passed true true = ap (λ rest. (number, offered_to p.patterns claimers offer) ∷ rest) claims_it
    by claims_it claims_not passed true false = ap (λ rest. (number, offered_to p.patterns claimers offer) ∷ rest) claims_not
    by claims_it claims_not passed false claim = passed

-- at the beginning nobody claimed
all_open : (n at : ℕ) (names : List (List ℕ)) → at + length names ≤ n → Agrees (replicate n true) [] at names
all_open n at [] within = tt
all_open n at (name ∷ names) within =
    let lt : at < n = omega arith in
    let later : suc at + length names ≤ n = omega arith in
    (get_or-replicate n at true false lt, all_open n (suc at) names later)

-- a new turn asks as the round does, whatever is said before the first is asked
pub coming-new : (turn : Turn) (processors : List Supported) (contributed : List Bool) (present names : List (List ℕ)) (last : Bool)
    → names ≡ (offer_of present last).names
    → turn.waiting.items ≡ candidates_of names 0 processors contributed
    → turn.unclaimed.items ≡ replicate (length names) true
    → turn.empty_set ≡ ((length present == 0) && not last)
    → turn.offered ≡ [] → turn.supports_all ≡ false
    → (claimed : Bool) (claims : List Bool) → coming turn claimed claims ≡ asked processors contributed present last claims
unfolding coming asked
coming-new turn processors contributed present names last shown waiting open_ empty none not_all claimed claims =
    rw (none, not_all) (by claimed turn.empty_set)
    ∙ ap (λ list. coming_of turn.unclaimed.items turn.empty_set list claims) (waiting ∙ ap (λ list. candidates_of list 0 processors contributed) shown)
    ∙ ap (λ unclaimed. coming_of unclaimed turn.empty_set (candidates_of (offer_of present last).names 0 processors contributed) claims) (open_ ∙ ap (λ list. replicate (length list) true) shown)
    ∙ coming_of-asked (offer_of present last) 0 [] processors contributed (replicate (length (offer_of present last).names) true) turn.empty_set claims
    (all_open (length (offer_of present last).names) 0 (offer_of present last).names (omega arith)) (empty ∙ whole ((length present == 0) && not last))
  where
    whole : (b : Bool) → b ≡ (b && not false)
    whole true = refl
    whole false = refl

    by : (b e : Bool) → cond b (coming_of turn.unclaimed.items (e && not false) turn.waiting.items claims) (coming_of turn.unclaimed.items e turn.waiting.items claims) ≡ coming_of turn.unclaimed.items e turn.waiting.items claims
    by true true = refl
    by true false = refl
    by false e = refl

-- one that is asked comes first, and behind it those of the turn in which it is asked
pub coming-asked : (turn : Turn) (candidate : Candidate) (claims : List Bool) → asks candidate turn.unclaimed.items turn.empty_set ≡ true
    → coming_of turn.unclaimed.items turn.empty_set (candidate ∷ turn.waiting.items) claims
    ≡ (candidate.number, left_for candidate turn.unclaimed.items) ∷ coming (record turn { offered = left_for candidate turn.unclaimed.items; supports_all = candidate.supports_all }) (next_claim claims) (later_claims claims)
unfolding coming
coming-asked turn candidate claims is = rw is refl

-- one that is not asked is passed over
pub coming-passed : (turn : Turn) (candidate : Candidate) (claims : List Bool) → asks candidate turn.unclaimed.items turn.empty_set ≡ false
    → coming_of turn.unclaimed.items turn.empty_set (candidate ∷ turn.waiting.items) claims ≡ coming_of turn.unclaimed.items turn.empty_set turn.waiting.items claims
coming-passed turn candidate claims is = rw is refl

-- the end
pub coming-over : (turn : Turn) (claimed : Bool) (claims : List Bool) → length turn.waiting.items ≡ 0 → coming turn claimed claims ≡ []
unfolding coming
coming-over turn claimed claims none = by claimed turn.waiting.items none
  where
    by : (b : Bool) (waiting : List Candidate) → length waiting ≡ 0
        → cond b (coming_of (claimed_at turn.offered turn.unclaimed.items) (turn.empty_set && not turn.supports_all) waiting claims) (coming_of turn.unclaimed.items turn.empty_set waiting claims) ≡ []
    by true [] none = refl
    by false [] none = refl
    by b (x ∷ xs) none = absurd (omega arith)

pub length-candidates_of : (names : List (List ℕ)) (number : ℕ) (processors : List Supported) (contributed : List Bool) → length processors ≡ length contributed → length (candidates_of names number processors contributed) ≡ length processors
length-candidates_of names number [] contributed same = refl
length-candidates_of names number (p ∷ ps) [] same = absurd (omega arith)
length-candidates_of names number (p ∷ ps) (c ∷ cs) same =
    let later : length ps ≡ length cs = omega arith in
    ap (λ n. suc n) (length-candidates_of names (suc number) ps cs later)
