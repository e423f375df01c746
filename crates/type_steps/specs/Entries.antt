-- What a class type puts in the place of type parameters, with the numbers of types.
use Rattle.std.specs.Prelude.{◌≡◌, Bool, ℕ, List, [], ◌∷◌, ◌++◌, fold, if◌then◌else◌, Option, None, Some}
use Rattle.std.specs.List.{list_any}
use Rattle.apt_base.specs.Elements.{same_element}
use Rattle.apt_base.specs.declared.element.ElementRef.{ElementRef}
use Rattle.element_table.specs.TypeTable.{TypeTable}
use Rattle.type_mirror.specs.declared.mirror.Mirror.{Mirror}
use Rattle.type_mirror.specs.Substitution.{Replacements, substituted}
use Rattle.type_numbers.specs.Numbers.{at}
use Rattle.type_numbers.specs.Replaced.{Numbered, replacements_in}
use Rattle.type_relations.specs.RawTypes.{entries, once_behind, replacements}

abbrev pub has_number : Numbered → ElementRef → Bool
has_number by element = list_any (λ pair. same_element pair.0 element) by

-- the first entry for a variable counts
abbrev pub with_number : Numbered → ElementRef × ℕ → Numbered
with_number by pair = if has_number by pair.0 then by else by ++ pair ∷ []

abbrev pub with_numbers : Numbered → Numbered → Numbered
with_numbers by more = fold with_number by more

-- the entries of a type that may be absent
abbrev pub entries_at : TypeTable → List Mirror → Option ℕ → Replacements
entries_at table types None = []
entries_at table types (Some number) = entries table (at types number)

-- with the entries of its enclosing type they are those of the type behind the old ones
abbrev pub LeavesEntries : TypeTable → List Mirror → Numbered → Numbered → ℕ → Option ℕ → Type 0
LeavesEntries table types old new number enclosing =
    once_behind (replacements_in types new) (entries_at table types enclosing) ≡ once_behind (replacements_in types old) (entries table (at types number))

-- the entries are what the class type with a number puts in the place of type parameters
abbrev pub Replaces : TypeTable → List Mirror → Numbered → ℕ → Type 0
Replaces table types by number = replacements_in types by ≡ replacements table (at types number)

-- a type with what a class type puts in the place of type parameters, by their numbers
abbrev pub in_class : TypeTable → List Mirror → ℕ → ℕ → Mirror
in_class table types owner number = substituted (replacements table (at types owner)) (at types number)
