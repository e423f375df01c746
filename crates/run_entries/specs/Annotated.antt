-- The roots to which something is offered: those that carry an offered name, each with the offered names that it carries.
use Rattle.std.specs.Prelude.{ℕ, Bool, not, ◌==◌, List, length, map, filter}
use Rattle.std.specs.List.{list_any}
use Rattle.std.specs.Str.{bytes_eq}
use Rattle.run_entries.specs.Outputs.{Root}

abbrev pub is_offered : List (List ℕ) → List ℕ → Bool
is_offered offered name = list_any (bytes_eq name) offered

-- a root with the offered ones among the names that are present on it
abbrev pub offered_on : List (List ℕ) → Root → Root
offered_on offered root = (root.0, filter (is_offered offered) root.1)

abbrev pub carries_some : Root → Bool
carries_some root = not (length root.1 == 0)

-- of roots with the names that are present on each
unfoldable pub annotated_roots : List (List ℕ) → List Root → List Root
annotated_roots offered roots = filter carries_some (map (offered_on offered) roots)
