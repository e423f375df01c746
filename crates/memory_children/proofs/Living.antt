-- Which children live.
use Rattle.std.proofs.Common.{◌≡◌, ℕ, ◌+◌, ◌<◌, Bool, List, [], ◌∷◌, ◌++◌, length, All, Contains, filter, sym, subst, ap, arith, length-append, slice_set}
use Rattle.std.proofs.lemmas.List.{length-set}
use Rattle.std.proofs.lemmas.List.Elements.{All-contains, All-filter, All-push, All-weaker}
use Rattle.memory_children.specs.Kept.{Kept, LiveStarted}

-- one of them has its place
pub lives_below : (live : List ℕ) (started : List Kept) (k : ℕ) → LiveStarted live started → Contains live k → k < length started
lives_below live started k lives among = All-contains (λ n. n < length started) live k lives among

pub lives_along : (live live' : List ℕ) (started started' : List Kept) → live' ≡ live → length started' ≡ length started → LiveStarted live started → LiveStarted live' started'
lives_along live live' started started' same as_many lives = subst (λ l. All (λ k. k < length started') l) (sym same) (subst (λ n. All (λ k. k < n) live) (sym as_many) lives)

pub lives_set : (live : List ℕ) (started : List Kept) (i : ℕ) (new : Kept) → LiveStarted live started → LiveStarted live (slice_set started i new)
lives_set live started i new lives = subst (λ n. All (λ k. k < n) live) (sym (length-set started i new)) lives

pub lives_push : (live : List ℕ) (started : List Kept) (new : Kept) → LiveStarted live started → LiveStarted (live ++ length started ∷ []) (started ++ new ∷ [])
lives_push live started new lives =
    let longer : length (started ++ new ∷ []) ≡ length started + 1 = length-append started (new ∷ []) in
    let before : All (λ k. k < length (started ++ new ∷ [])) live = All-weaker (λ k. k < length started) (λ k. k < length (started ++ new ∷ [])) (λ k below. omega (arith, below, longer)) live lives in
    All-push (λ k. k < length (started ++ new ∷ [])) live (length started) before (omega (arith, longer))

pub lives_filter : (p : ℕ → Bool) (live : List ℕ) (started : List Kept) → LiveStarted live started → LiveStarted (filter p live) started
lives_filter p live started lives = All-filter p (λ k. k < length started) live lives

-- the next number is of none that lives
pub fresh_push : (live : List ℕ) (started : List Kept) → LiveStarted live started → ¬ Contains live (length started)
fresh_push live started lives among = let below : length started < length started = lives_below live started (length started) lives among in omega arith
