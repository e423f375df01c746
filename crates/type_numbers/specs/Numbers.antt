-- Types by numbers: the place of a mirror in a list is its number. The list only gets longer, so a number stands for one mirror for ever.
use Rattle.std.specs.Prelude.{◌≡◌, ℕ, ◌<◌, List, ◌++◌, length, get_or, map, Option}
use Rattle.std.specs.List.{AllByRecursion}
use Rattle.std.specs.Option.{option_map, option_to_list}
use Rattle.type_mirror.specs.declared.mirror.Mirror.{Mirror}
use Rattle.apt_base.specs.declared.element.ElementRef.{ElementRef}
use Rattle.type_layers.specs.Layers.{Layer, Nothing, map_layer, mirror_of, declared_mirror, executable_mirror}

abbrev pub no_type : Mirror
no_type = mirror_of Nothing

-- the mirror with a number
abbrev pub at : List Mirror → ℕ → Mirror
at types number = get_or types number no_type

-- the number is that of a mirror
abbrev pub IsKnown : List Mirror → ℕ → Type 0
IsKnown types number = number < length types

abbrev pub AreKnown : List Mirror → List ℕ → Type 0
AreKnown types numbers = AllByRecursion (IsKnown types) numbers

-- the number is that of this mirror
pub record Stands (types : List Mirror) (number : ℕ) (m : Mirror) : Type 0 where
  pub known : IsKnown types number
  pub type : at types number ≡ m

-- the same of several, in order
pub record AllStand (t : List Mirror) (numbers : List ℕ) (ms : List Mirror) : Type 0 where
  pub known : AreKnown t numbers
  pub types : map (at t) numbers ≡ ms

-- the same of one that may be absent
pub record OptionStands (types : List Mirror) (number : Option ℕ) (m : Option Mirror) : Type 0 where
  pub known : AreKnown types (option_to_list number)
  pub type : option_map (at types) number ≡ m

-- mirrors were added behind the others, which keep their numbers
pub record Grows (old new : List Mirror) : Type 0 where
  pub more : List Mirror
  pub types : new ≡ old ++ more

-- no mirror has two numbers
abbrev pub AreDifferent : List Mirror → Type 0
AreDifferent types = (i j : ℕ) → i < length types → j < length types → at types i ≡ at types j → i ≡ j

-- no number is that of this mirror
abbrev pub HasNo : List Mirror → Mirror → Type 0
HasNo types m = (number : ℕ) → IsKnown types number → at types number ≡ m → ⊥

-- a layer with mirrors in the place of their numbers
abbrev pub with_types : List Mirror → Layer ℕ → Layer Mirror
with_types types l = map_layer (at types) l

-- the mirror with that layer
abbrev pub mirror_with : List Mirror → Layer ℕ → Mirror
mirror_with types l = mirror_of (with_types types l)

-- a class type, and the type of a method, by the numbers of what they hold
abbrev pub declared_at : List Mirror → ElementRef → Option ℕ → List ℕ → Mirror
declared_at types element enclosing arguments = declared_mirror element (option_map (at types) enclosing) (map (at types) arguments)

abbrev pub executable_at : List Mirror → List ElementRef → List ℕ → ℕ → List ℕ → Mirror
executable_at types variables parameters outcome thrown = executable_mirror variables (map (at types) parameters) (at types outcome) (map (at types) thrown)
