-- Raw types (JLS 4.8), and what a class type puts in the place of type parameters (JLS 4.10.2).
use Rattle.std.specs.Prelude.{Bool, false, List, [], ◌∷◌, ◌++◌, map, fold, Option, None, Some, if◌then◌else◌}
use Rattle.std.specs.List.{zip, list_any}
use Rattle.apt_base.specs.Elements.{same_element}
use Rattle.apt_base.specs.declared.element.ElementRef.{ElementRef}
use Rattle.element_table.specs.TypeTable.{TypeTable}
use Rattle.type_mirror.specs.declared.mirror.Mirror.{Mirror}
use Rattle.type_mirror.specs.declared.mirror.BaseMirror.TheVariants as base
use Rattle.type_mirror.specs.declared.mirror.DeclaredMirror.{DeclaredMirror}
use Rattle.type_mirror.specs.Parts.{plain}
use Rattle.type_mirror.specs.Substitution.{Replacements, substituted}
use Rattle.type_layers.specs.Layers.{Layer, Declared, layer, Held, by_parts}
use Rattle.type_relations.specs.Elements.{type_parameters, has_type_parameters}

-- of an element with these arguments: it has parameters, and there are no arguments
abbrev pub is_raw_with : TypeTable → ElementRef → List Mirror → Bool
is_raw_with table at [] = has_type_parameters table at
is_raw_with table at (argument ∷ arguments) = false

abbrev pub is_raw_layer : TypeTable → Layer Mirror → Bool
is_raw_layer table (Declared at enclosing arguments) = is_raw_with table at arguments
is_raw_layer table _ = false

abbrev pub is_raw : TypeTable → Mirror → Bool
is_raw table m = is_raw_layer table (layer m)

-- ---- what is put in the place of type parameters

abbrev pub of_enclosing : Option (Held Replacements) → Replacements
of_enclosing None = []
of_enclosing (Some enclosing) = enclosing.value

-- each parameter of the element with the argument at its place, and then those of the enclosing type. An argument too many counts for nothing, and a parameter without one stays
abbrev pub entries_in : TypeTable → Layer (Held Replacements) → Replacements
entries_in table (Declared at enclosing arguments) = zip (type_parameters table at) (map (λ a. a.mirror) arguments) ++ of_enclosing enclosing
entries_in table _ = []

unfoldable pub entries : TypeTable → Mirror → Replacements
entries table = by_parts (entries_in table)

-- the first entry for a variable counts
abbrev pub has_entry : Replacements → ElementRef → Bool
has_entry by at = list_any (λ pair. same_element pair.0 at) by

abbrev pub added : Replacements → ElementRef × Mirror → Replacements
added by pair = if has_entry by pair.0 then by else by ++ pair ∷ []

abbrev pub once_behind : Replacements → Replacements → Replacements
once_behind by more = fold added by more

unfoldable pub replacements : TypeTable → Mirror → Replacements
replacements table m = once_behind [] (entries table m)

abbrev pub type_of_class : DeclaredMirror → Mirror
type_of_class d = plain (base.Declared d)

-- types with what this class type puts in the place of type parameters
abbrev pub replaced_by : TypeTable → DeclaredMirror → List Mirror → List Mirror
replaced_by table d types = map (substituted (replacements table (type_of_class d))) types
