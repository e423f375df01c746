-- The file of kinds: a name and its kind on a line. `,` is 44.
use Rattle.std.specs.Prelude.{ℕ, List, [], ◌∷◌, ◌==◌, not, Option, Some, None, filter, codes, if◌then◌else◌}
use Rattle.std.specs.List.{before_first, after_first}
use Rattle.std.specs.Str.{bytes_eq, str_eq_ignore_ascii_case}
use Rattle.apt_base.specs.Fields.{◌>>=◌}
use Rattle.apt_base.specs.declared.kinds.Kind.{Kind}
use Rattle.apt_base.specs.declared.kinds.Kind.TheVariants.{Isolating, Aggregating, Dynamic}
use Rattle.processor_claims.specs.Lines.{trimmed, name_in, said_in, readings}

-- the kind that a word names, in any case
unfoldable pub kind_named : List ℕ → Option Kind
kind_named word =
    if str_eq_ignore_ascii_case word (codes "isolating") then Some Isolating
    else (if str_eq_ignore_ascii_case word (codes "aggregating") then Some Aggregating
    else (if str_eq_ignore_ascii_case word (codes "dynamic") then Some Dynamic else None))

-- what a line says: a name, a comma and a kind, with blanks around the comma or none
unfoldable pub kind_in : List ℕ → Option (List ℕ × Kind)
kind_in text = do
  name ← name_in (trimmed (before_first (λ c. c == 44) text))
  kind ← kind_named (trimmed (after_first (λ c. c == 44) text))
  Some (name, kind)

-- the kind that the entries say of a name last, or another one where they say none
abbrev pub last_kind : Kind → List ℕ → List (List ℕ × Kind) → Kind
last_kind other name [] = other
last_kind other name (entry ∷ entries) = last_kind (if bytes_eq name entry.0 then entry.1 else other) name entries

-- each name once, in the order in which they first come, with the kind that is said of it last
abbrev pub last_of_each : List (List ℕ × Kind) → List (List ℕ × Kind)
last_of_each [] = []
last_of_each (entry ∷ entries) = (entry.0, last_kind entry.1 entry.0 entries) ∷ filter (λ other. not (bytes_eq entry.0 other.0)) (last_of_each entries)

-- entries with the kind of one more name, which takes the place of the kind that the name has there
abbrev pub with_kind : List (List ℕ × Kind) → List ℕ → Kind → List (List ℕ × Kind)
with_kind [] name kind = (name, kind) ∷ []
with_kind (entry ∷ entries) name kind = if bytes_eq name entry.0 then (entry.0, kind) ∷ entries else entry ∷ with_kind entries name kind

-- the kinds of a file of kinds
abbrev pub kinds_of : List ℕ → List (List ℕ × Kind)
kinds_of file = last_of_each (readings kind_in (said_in file))
