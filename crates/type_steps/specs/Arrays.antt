-- Arrays of arrays (JLS 10.2), by how many there are around their items.
use Rattle.std.specs.Prelude.{◌≡◌, ℕ, zero, suc, Bool, true, false, List, map, Option}
use Rattle.std.specs.Option.{option_map}
use Rattle.element_table.specs.TypeTable.{TypeTable}
use Rattle.type_mirror.specs.declared.mirror.Mirror.{Mirror}
use Rattle.type_layers.specs.Layers.{Layer, Array, Extends, array_of}
use Rattle.type_numbers.specs.Numbers.{at}
use Rattle.type_relations.specs.Erasure.{erasure}

-- the type in this many arrays
abbrev pub arrays : ℕ → Mirror → Mirror
arrays zero item = item
arrays (suc n) item = array_of (arrays n item)

-- the type with a number that may be open, in this many arrays
abbrev pub arrays_at : List Mirror → ℕ → Option ℕ → Option Mirror
arrays_at types n item = option_map (arrays n) (option_map (at types) item)

-- arrays of several types
abbrev pub array_types : List Mirror → List ℕ → List Mirror
array_types types items = map array_of (map (at types) items)

abbrev pub is_array : {M : Type 0} → Layer M → Bool
is_array (Array item) = true
is_array _ = false

-- an array, or `? extends` with its bound
abbrev pub has_item : {M : Type 0} → Layer M → Bool
has_item (Array item) = true
has_item (Extends bound) = true
has_item _ = false

-- the erasure of a type is that of another one, in this many arrays
abbrev pub ErasesIn : Mirror → ℕ → Mirror → Type 0
ErasesIn m n item = (table : TypeTable) (steps : ℕ) → erasure table steps m ≡ option_map (arrays n) (erasure table steps item)
