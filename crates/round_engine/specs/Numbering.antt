-- Which number each file gets that a run made: the least one that no file of the store has and no earlier file got.
use Rattle.std.specs.Prelude.{◌⊎◌, ◌↔◌, ℕ, ◌<◌, ◌≤◌, List, [], ◌∷◌, ◌++◌, All, Contains}
use Rattle.std.specs.List.Sorted.{IsStrictlyIncreasing}

-- the number is the least one that is neither taken nor given before
pub record IsLeastFree (taken given : List ℕ) (n : ℕ) : Type 0 where
  pub untaken : ¬ Contains taken n
  pub new : ¬ Contains given n
  pub least : (m : ℕ) → m < n → Contains taken m ⊎ Contains given m

-- each number in turn is the least one that is left
abbrev pub AreLeast : List ℕ → List ℕ → List ℕ → Type 0
AreLeast taken given [] = Unit {0}
AreLeast taken given (n ∷ ns) = IsLeastFree taken given n × AreLeast taken (given ++ n ∷ []) ns

-- the taken numbers that are left ascend, and none is below `next`
pub record AreAhead (left : List ℕ) (next : ℕ) : Type 0 where
  pub ascending : IsStrictlyIncreasing left
  pub ahead : All (λ n. next ≤ n) left

-- the number is the first from `next` on that is not among the taken numbers that are left
pub record IsNextFree (left : List ℕ) (next n : ℕ) : Type 0 where
  pub from : next ≤ n
  pub untaken : ¬ Contains left n
  pub passed : (m : ℕ) → next ≤ m → m < n → Contains left m

-- of the numbers from `next` on, the same are among both
pub record SameFrom (next : ℕ) (old new : List ℕ) : Type 0 where
  pub same : (m : ℕ) → next ≤ m → Contains new m ↔ Contains old m
