-- Which items of a list pass a test, by their places.
use Rattle.std.specs.Prelude.{ℕ, ◌+◌, Bool, List, [], ◌∷◌, filter_map, slice_get, if◌then◌else◌}

-- counted from `at`
abbrev pub positions : {A : Type 0} → (A → Bool) → ℕ → List A → List ℕ
positions test at [] = []
positions test at (item ∷ items) = if test item then at ∷ positions test (at + 1) items else positions test (at + 1) items

-- the items at these places
abbrev pub items_at : {A : Type 0} → List A → List ℕ → List A
items_at items places = filter_map (slice_get items) places
