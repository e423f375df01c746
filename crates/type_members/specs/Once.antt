-- Numbers in a list, each once, at the place where it first came.
use Rattle.std.specs.Prelude.{ℕ, eqb, List, [], ◌∷◌, ◌++◌, fold, if◌then◌else◌}
use Rattle.std.specs.List.{list_any}

abbrev pub with_new : List ℕ → ℕ → List ℕ
with_new list number = if list_any (eqb number) list then list else list ++ number ∷ []

abbrev pub with_each : List ℕ → List ℕ → List ℕ
with_each list numbers = fold with_new list numbers
