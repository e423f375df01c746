-- Type variables replaced by types that have numbers.
use Rattle.std.specs.Prelude.{◌≡◌, ℕ, List, map, find, Option, Some}
use Rattle.std.specs.List.{AllByRecursion}
use Rattle.std.specs.Option.{option_map}
use Rattle.std.specs.BTreeMap.{BTreeMap}
use Rattle.apt_base.specs.Elements.{same_element}
use Rattle.apt_base.specs.declared.element.ElementRef.{ElementRef}
use Rattle.type_mirror.specs.declared.mirror.Mirror.{Mirror}
use Rattle.type_mirror.specs.Substitution.{Replacements, in_place, substituted}
use Rattle.type_layers.specs.Layers.{Layer, Variable, mirror_of, map_layer}
use Rattle.type_numbers.specs.declared.node.Node.{Node}
use Rattle.type_numbers.specs.Nodes.{layer_of}
use Rattle.type_numbers.specs.Numbers.{at, IsKnown, Stands}
use Rattle.type_numbers.specs.Remembered.{EachHas}

-- variables, each with the number of the type that is put in its place
abbrev pub Numbered : Type 0
Numbered = List (ElementRef × ℕ)

abbrev pub replacements_in : List Mirror → Numbered → Replacements
replacements_in types by = map (λ pair. (pair.0, at types pair.1)) by

abbrev pub AreKnownIn : List Mirror → Numbered → Type 0
AreKnownIn types by = AllByRecursion (λ pair. IsKnown types pair.1) by

-- the number of what is put in the place of that variable, where the list has it
abbrev pub number_for : Numbered → ElementRef → Option ℕ
number_for by element = option_map (λ pair. pair.1) (find (λ pair. same_element pair.0 element) by)

-- the type with a number, with the variables replaced
abbrev pub replaced_at : List Mirror → Numbered → ℕ → Mirror
replaced_at types by number = substituted (replacements_in types by) (at types number)

-- a layer whose parts are replaced already
abbrev pub replaced_layer : Replacements → Layer Mirror → Mirror
replaced_layer by (Variable element) = in_place by element
replaced_layer by l = mirror_of l

-- the same by numbers
abbrev pub replaced_variable : List Mirror → Numbered → ElementRef → Mirror
replaced_variable types by element = in_place (replacements_in types by) element

abbrev pub replaced_node : List Mirror → Numbered → Node → Mirror
replaced_node types by n = replaced_layer (replacements_in types by) (map_layer (replaced_at types by) (layer_of n))

abbrev pub replaced_option : List Mirror → Numbered → Option ℕ → Option Mirror
replaced_option types by number = option_map (replaced_at types by) number

abbrev pub all_replaced : List Mirror → Numbered → List ℕ → List Mirror
all_replaced types by numbers = map (replaced_at types by) numbers

-- a number was made of a number
abbrev pub IsMade : List Mirror → Numbered → ℕ → ℕ → Type 0
IsMade types by number made = IsKnown types number × Stands types made (replaced_at types by number)

-- what was made of numbers so far
abbrev pub Remembers : List Mirror → Numbered → BTreeMap ℕ ℕ → Type 0
Remembers types by done = EachHas (IsMade types by) done
