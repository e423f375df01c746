-- A text that ends with a suffix is not empty.
use Rattle.std.proofs.Common.{◌≡◌, ◌≤◌, ◌-◌, ℕ, Bool, true, false, List, [], ◌∷◌, length, arith}
use Rattle.std.specs.List.{slice_get}
use Rattle.std.specs.Option.{option_map_or}
use Rattle.literal_values.specs.Numerals.{is_long}
use Rattle.literal_values.specs.Floating.{is_suffixed}

last-is_there : (test : ℕ → Bool) (text : List ℕ) → option_map_or test (slice_get text (length text - 1)) false ≡ true → 1 ≤ length text
last-is_there test [] ends = absurd cc
last-is_there test (c ∷ cs) ends = omega arith

pub long-is_something : (text : List ℕ) → is_long text ≡ true → 1 ≤ length text
unfolding is_long
long-is_something text long = last-is_there _ text long

pub suffixed-is_something : (text : List ℕ) → is_suffixed text ≡ true → 1 ≤ length text
unfolding is_suffixed
suffixed-is_something text suffixed = last-is_there _ text suffixed
