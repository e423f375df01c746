-- What is remembered of things that have numbers.
use Rattle.std.specs.Prelude.{◌≡◌, ℕ, Some}
use Rattle.std.specs.BTreeMap.{BTreeMap, get}
use Rattle.std.specs.Ordering.{nat_cmp}

-- what stands at each number has this
unfoldable pub EachHas : {V : Type 0} → (ℕ → V → Type 0) → BTreeMap ℕ V → Type 0
EachHas P held = (number : ℕ) (value : _) → get nat_cmp held number ≡ Some value → P number value
