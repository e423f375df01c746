-- The file that names the processors: one name on a line, in the order of discovery.
use Rattle.std.specs.Prelude.{ℕ, not, ◌++◌, List, [], ◌∷◌, filter, if◌then◌else◌}
use Rattle.std.specs.List.{list_any}
use Rattle.std.specs.Str.{bytes_eq}
use Rattle.processor_claims.specs.Lines.{said_in, readings, name_in}

-- each name once, in the order in which they first come
abbrev pub each_once : List (List ℕ) → List (List ℕ)
each_once [] = []
each_once (name ∷ names) = name ∷ filter (λ other. not (bytes_eq name other)) (each_once names)

-- the names of a file of processors
abbrev pub names_of : List ℕ → List (List ℕ)
names_of file = each_once (readings name_in (said_in file))

-- names and one name more, which is passed over where they have it
abbrev pub with_name : List (List ℕ) → List ℕ → List (List ℕ)
with_name names name = if list_any (bytes_eq name) names then names else names ++ name ∷ []
