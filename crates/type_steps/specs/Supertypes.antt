-- Numbers of several types that may be open, and the erasure and the direct supertypes of the type with a number.
use Rattle.std.specs.Prelude.{◌≡◌, ℕ, Bool, false, List, [], ◌∷◌, map, Option, unwrap_or}
use Rattle.std.specs.Option.{option_map}
use Rattle.apt_base.specs.declared.element.ElementRef.{ElementRef}
use Rattle.apt_base.specs.Limits.{max_type_steps}
use Rattle.element_table.specs.TypeTable.{TypeTable}
use Rattle.type_mirror.specs.declared.mirror.Mirror.{Mirror}
use Rattle.type_mirror.specs.Substitution.{substituted}
use Rattle.type_layers.specs.Layers.{layer}
use Rattle.type_numbers.specs.Numbers.{at, AreKnown}
use Rattle.type_relations.specs.Direct.{direct, of_layer, of_array}
use Rattle.type_relations.specs.Elements.{has_type_parameters}
use Rattle.type_relations.specs.Erasure.{erasure, erasures}
use Rattle.type_relations.specs.Named.{declared_supertypes}
use Rattle.type_relations.specs.RawTypes.{replacements}

-- the numbers are those of these types, in order; there are none exactly where the types are open
pub record AllMayStand (t : List Mirror) (numbers : Option (List ℕ)) (ms : Option (List Mirror)) : Type 0 where
  pub known : AreKnown t (unwrap_or numbers [])
  pub types : option_map (map (at t)) numbers ≡ ms

-- ---- erasures

-- that of the type with a number
abbrev pub erasure_at : TypeTable → List Mirror → ℕ → Option Mirror
erasure_at table types number = erasure table max_type_steps (at types number)

-- those of several types, in order
abbrev pub erasures_at : TypeTable → List Mirror → List ℕ → Option (List Mirror)
erasures_at table types numbers = erasures table max_type_steps (map (at types) numbers)

-- ---- direct supertypes

-- those of the type with a number
abbrev pub direct_at : TypeTable → List Mirror → ℕ → Option (List Mirror)
direct_at table types number = direct table (at types number)

-- those of a type that is no array
abbrev pub item_direct : TypeTable → Mirror → Option (List Mirror)
item_direct table m = of_layer table m (layer m)

-- the same of the type with a number
abbrev pub item_at : TypeTable → List Mirror → ℕ → Option (List Mirror)
item_at table types number = item_direct table (at types number)

-- a class type of an element with these arguments is raw
abbrev pub is_raw_at : TypeTable → ElementRef → List ℕ → Bool
is_raw_at table element [] = has_type_parameters table element
is_raw_at table element (argument ∷ arguments) = false

-- what the header of an element has, with what the class type with a number puts in the place of type parameters
abbrev pub header_at : TypeTable → List Mirror → ElementRef → ℕ → List Mirror
header_at table types element number = map (substituted (replacements table (at types number))) (declared_supertypes table element)

-- those of an array by whether its item is primitive, and by the numbers of those of its item
abbrev pub in_array : TypeTable → List Mirror → Bool → Option (List ℕ) → Option (List Mirror)
in_array table types primitive all = of_array table primitive (option_map (map (at types)) all)
