-- Parts of the mirror of a type, as the calls of this crate have them.
use Rattle.std.specs.Prelude.{ℕ, ◌||◌, List, [], ◌∷◌, ◌++◌, map, Option, None, Some, is_some, if◌then◌else◌}
use Rattle.std.specs.List.{flat_map}
use Rattle.decl_tree.specs.declared.type_text.BaseType.{BaseType}
use Rattle.decl_tree.specs.declared.type_text.NamedPart.{NamedPart}
use Rattle.decl_tree.specs.declared.type_text.TypeText.{TypeText}
use Rattle.type_mirror.specs.declared.mirror.BaseMirror.TheVariants as base
use Rattle.type_mirror.specs.declared.mirror.Mirror.{Mirror}
use Rattle.type_mirror.specs.Parts.{plain}
use Rattle.element_table.specs.TypeTable.{TypeTable}
use Rattle.name_resolve.specs.Finds.{Find, Finds}
use Rattle.name_resolve.specs.Meaning.{scope_of, tops_of}
use Rattle.name_resolve.specs.Mirrors.{MeantPart, Look, look_at, meant, base_meant, part_meant, or_none, found_mirror, named_mirror, parts_mirror, supertype_mirror}
use Rattle.name_resolve.specs.Placed.{IsPlaced}
use Rattle.name_resolve.specs.Shown.{find_of, super_of}
use Rattle.name_resolve.specs.declared.headers.Supertype.{Supertype}
use Rattle.type_resolve.specs.Spelling.{part_spelled, parts_spelled}
use Rattle.type_resolve.specs.declared.scopes.Scope.{Scope}

-- the look-up of names in a scope
abbrev pub look_in : Scope → Look
look_in s = look_at s.table.now (scope_of s.header (find_of s.at))

-- it is of its table
abbrev pub IsScope : Scope → Type 0
IsScope s = IsPlaced s.table.now (find_of s.at)

abbrev pub type_mirror_in : Scope → TypeText → Mirror
type_mirror_in s text = (meant (look_in s) text).mirror

abbrev pub base_mirror_in : Scope → BaseType → Mirror
base_mirror_in s of = (base_meant (look_in s) of).mirror

abbrev pub class_mirror_in : Scope → List NamedPart → Mirror
class_mirror_in s parts = parts_mirror (look_in s) (map (part_meant (look_in s)) parts)

abbrev pub arguments_in : Scope → NamedPart → Option (List Mirror)
arguments_in s part = (part_meant (look_in s) part).arguments

-- what the first names mean, of which these are the texts, with what encloses the last of them
abbrev pub whole_mirror : Look → List (List ℕ) → List ℕ → Option Mirror → Option (List Mirror) → Mirror
whole_mirror look names text enclosing arguments = found_mirror (look.whole names) text enclosing (or_none arguments)

abbrev pub front_mirror : Look → List (List ℕ) → List ℕ → Option Mirror → Option (List Mirror) → Mirror
front_mirror look names text enclosing arguments = found_mirror (look.front names) text enclosing (or_none arguments)

-- what encloses the next name: nothing where no arguments are written so far
abbrev pub next_enclosing : Look → List (List ℕ) → List ℕ → Option Mirror → Option (List Mirror) → Option Mirror
next_enclosing look names text enclosing arguments =
    if is_some enclosing || is_some arguments then Some (front_mirror look names text enclosing arguments) else None

-- the texts of some names, each with a dot behind it
abbrev pub fronts_text : List NamedPart → List ℕ
fronts_text parts = flat_map (λ part. part_spelled part ++ 46 ∷ []) parts

-- a class type from one of its names on
abbrev pub class_from : Look → List (List ℕ) → List ℕ → Option Mirror → List MeantPart → Mirror
class_from look names text enclosing [] = plain (base.Error [])
class_from look names text enclosing (part ∷ parts) = named_mirror look names text enclosing part parts

-- the mirrors of some supertypes of a type
abbrev pub supertype_mirrors : TypeTable → Find → List Supertype → List Mirror
supertype_mirrors table f list = map (λ s. supertype_mirror table f (super_of s)) list

-- ---- the same of the values that the calls have

abbrev pub found_by : Finds → List NamedPart → Option Mirror → List Mirror → Mirror
found_by finds parts enclosing arguments = found_mirror finds (parts_spelled parts) enclosing arguments

abbrev pub whole_in : Scope → List (List ℕ) → List NamedPart → Option Mirror → Option (List Mirror) → Mirror
whole_in s names parts enclosing arguments = whole_mirror (look_in s) names (parts_spelled parts) enclosing arguments

abbrev pub front_in : Scope → List (List ℕ) → List NamedPart → Option Mirror → Option (List Mirror) → Mirror
front_in s names parts enclosing arguments = front_mirror (look_in s) names (parts_spelled parts) enclosing arguments

abbrev pub enclosing_in : Scope → List (List ℕ) → List NamedPart → Option Mirror → Option (List Mirror) → Option Mirror
enclosing_in s names parts enclosing arguments = next_enclosing (look_in s) names (parts_spelled parts) enclosing arguments

-- the type of an implied name
abbrev pub implied_in : Scope → List ℕ → List Mirror → Mirror
implied_in s name arguments = found_mirror (tops_of s.table.now s.at.part name) name None arguments

abbrev pub supertype_in : Scope → Supertype → Mirror
supertype_in s each = supertype_mirror s.table.now (find_of s.at) (super_of each)

abbrev pub supertypes_in : Scope → List Supertype → List Mirror
supertypes_in s list = supertype_mirrors s.table.now (find_of s.at) list
