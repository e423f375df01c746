-- Values that may be open, which is None: the steps of a question do not suffice for them.
use Rattle.std.specs.Prelude.{List, [], ◌∷◌, ◌++◌, Option, None, Some}
use Rattle.std.specs.Option.{option_map, option_and_then}

-- a list of values, open where one of them is
abbrev pub closed : {A : Type 0} → List (Option A) → Option (List A)
closed [] = Some []
closed (x ∷ xs) = option_and_then (λ y. option_map (λ ys. y ∷ ys) (closed xs)) x

-- two values, open where one of them is
abbrev pub both_closed : {A B : Type 0} → Option A → Option B → Option (A × B)
both_closed None other = None
both_closed (Some x) None = None
both_closed (Some x) (Some y) = Some (x, y)

-- more values behind some
abbrev pub behind : {A : Type 0} → List A → Option (List A) → Option (List A)
behind xs more = option_map (λ ys. xs ++ ys) more
