-- The numbers of those that are asked are numbers of processors, and the positions that they are offered are positions of present names.
use Rattle.std.proofs.Common.{ℕ, suc, ◌+◌, ◌<◌, ◌≤◌, Bool, true, false, cond, ◌&&◌, List, [], ◌∷◌, length, arith}
use Rattle.std.specs.List.{AllByRecursion}
use Rattle.processor_claims.specs.declared.supported.Supported.{Supported}
use Rattle.processor_claims.specs.Patterns.{supports}
use Rattle.processor_claims.specs.Asked.{Offer, offer_of, positions, is_unclaimed, offered_to, is_asked, next_claim, later_claims, asked_from, asked, AreWithin}

positions-within : (test : List ℕ → Bool) (size at : ℕ) (names : List (List ℕ)) → at + length names ≤ size → AllByRecursion (λ p. p < size) (positions test at names)
positions-within test size at [] within = tt
positions-within test size at (name ∷ names) within =
    let here : at < size = omega arith in
    let later : suc at + length names ≤ size = omega arith in
    by here (positions-within test size (suc at) names later) (test name)
  where
    by : at < size → AllByRecursion (λ p. p < size) (positions test (suc at) names) → (b : Bool) → AllByRecursion (λ p. p < size) (cond b (at ∷ positions test (suc at) names) (positions test (suc at) names))
    by here later true = (here, later)
    by here later false = later

from-within : (count size number : ℕ) (claimers : List (List (List ℕ))) (offer : Offer) (processors : List Supported) (contributed : List Bool) (claims : List Bool)
    → number + length processors ≤ count → length offer.names ≤ size → AreWithin count size (asked_from number claimers offer processors contributed claims)
from-within count size number claimers offer [] contributed claims few short = tt
from-within count size number claimers offer (p ∷ ps) [] claims few short = tt
from-within count size number claimers offer (p ∷ ps) (c ∷ cs) claims few short =
    let here : number < count = omega arith in
    let fewer : suc number + length ps ≤ count = omega arith in
    by here
    (positions-within (λ name. supports p.patterns name && is_unclaimed claimers name) size 0 offer.names (omega arith))
    (from-within count size (suc number) (p.patterns ∷ claimers) offer ps cs (later_claims claims) fewer short)
    (from-within count size (suc number) claimers offer ps cs (later_claims claims) fewer short)
    (from-within count size (suc number) claimers offer ps cs claims fewer short)
    (is_asked p.patterns c claimers offer) (next_claim claims)
  where
    by : number < count → AllByRecursion (λ at. at < size) (offered_to p.patterns claimers offer)
        → AreWithin count size (asked_from (suc number) (p.patterns ∷ claimers) offer ps cs (later_claims claims))
        → AreWithin count size (asked_from (suc number) claimers offer ps cs (later_claims claims))
        → AreWithin count size (asked_from (suc number) claimers offer ps cs claims)
        → (b claim : Bool)
        → AreWithin count size (cond b ((number, offered_to p.patterns claimers offer)
        ∷ cond claim (asked_from (suc number) (p.patterns ∷ claimers) offer ps cs (later_claims claims)) (asked_from (suc number) claimers offer ps cs (later_claims claims)))
        (asked_from (suc number) claimers offer ps cs claims))
    by here given claims_it claims_not passed true true = ((here, given), claims_it)
    by here given claims_it claims_not passed true false = ((here, given), claims_not)
    by here given claims_it claims_not passed false claim = passed

pub asked-within : (processors : List Supported) (contributed : List Bool) (present : List (List ℕ)) (last : Bool) (claims : List Bool)
    → AreWithin (length processors) (length present) (asked processors contributed present last claims)
unfolding asked
asked-within processors contributed present last claims =
    from-within (length processors) (length present) 0 [] (offer_of present last) processors contributed claims (omega arith) (short last)
  where
    short : (b : Bool) → length (cond b [] present) ≤ length present
    short true = omega arith
    short false = omega arith
