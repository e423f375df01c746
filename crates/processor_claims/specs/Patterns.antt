-- The names that a pattern matches (JSR 269, `Processor.getSupportedAnnotationTypes`): `*` matches each name, `p.*` each name that begins with `p.`, and any other pattern itself alone.
use Rattle.std.specs.Prelude.{ℕ, ◌-◌, Bool, List, length, take, codes, nat_eq, if◌then◌else◌}
use Rattle.std.specs.List.{starts_with, ends_with, list_any}
use Rattle.std.specs.Str.{bytes_eq}
use Rattle.apt_base.specs.Identifiers.{is_star}

-- where a pattern ends in `*`, the names that begin with what stands before it
unfoldable pub matches : List ℕ → List ℕ → Bool
matches pattern name =
    if ends_with nat_eq pattern (codes "*") then starts_with nat_eq name (take (length pattern - 1) pattern) else bytes_eq pattern name

-- one of these patterns matches the name
abbrev pub supports : List (List ℕ) → List ℕ → Bool
supports patterns name = list_any (λ pattern. matches pattern name) patterns

-- one of these patterns is `*`
abbrev pub supports_all : List (List ℕ) → Bool
supports_all patterns = list_any is_star patterns
