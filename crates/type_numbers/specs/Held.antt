-- How the types of one call are held: nodes by number, each of which goes by nodes in front of it, and the number of each key.
use Rattle.std.specs.Prelude.{◌≡◌, ℕ, ◌<◌, List, [], ◌∷◌, ◌++◌, fold, Option, Some, Vec}
use Rattle.std.specs.List.{AllByRecursion, slice_get}
use Rattle.std.specs.BTreeMap.{is_at}
use Rattle.std.specs.Map.{lookup}
use Rattle.std.specs.Cmp.Lexicographic.{slice_cmp}
use Rattle.std.specs.Ordering.{nat_cmp}
use Rattle.std.specs.declared.alloc.Global.{Global}
use Rattle.type_mirror.specs.declared.mirror.Mirror.{Mirror}
use Rattle.type_layers.specs.Layers.{parts_of}
use Rattle.type_numbers.specs.Keys.{layer_key}
use Rattle.type_numbers.specs.Nodes.{layer_of}
use Rattle.type_numbers.specs.Numbers.{AreDifferent, mirror_with}
use Rattle.type_numbers.specs.declared.entry.Entry.{Entry}

-- the mirrors in the order of their numbers
abbrev pub with_entry : List Mirror → Entry → List Mirror
with_entry types e = types ++ mirror_with types (layer_of e.node) ∷ []

unfoldable pub types_of : List Entry → List Mirror
types_of entries = fold with_entry [] entries

abbrev pub Key : Type 0
Key = Vec ℕ Global

-- the number at a key
abbrev pub number_at : List (Key × ℕ) → List ℕ → Option ℕ
number_at numbers items = lookup (is_at (λ (k : Key). slice_cmp nat_cmp items k.items)) numbers

-- the numbers in a node are those of nodes in front of it
abbrev pub AreInOrder : List Entry → Type 0
AreInOrder entries = (i : ℕ) (e : Entry) → slice_get entries i ≡ Some e → AllByRecursion (λ part. part < i) (parts_of (layer_of e.node))

-- each node is found by its key, and nothing else is
abbrev pub Finds : List Entry → List (Key × ℕ) → Type 0
Finds entries numbers = (i : ℕ) (e : Entry) → slice_get entries i ≡ Some e → (k : Key) → k.items ≡ layer_key (layer_of e.node) → number_at numbers k.items ≡ Some i

abbrev pub IsOfKey : List Entry → List ℕ → ℕ → Type 0
IsOfKey entries items i = (e : Entry) × ((slice_get entries i ≡ Some e) × (layer_key (layer_of e.node) ≡ items))

abbrev pub FindsOnly : List Entry → List (Key × ℕ) → Type 0
FindsOnly entries numbers = (k : Key) (i : ℕ) → number_at numbers k.items ≡ Some i → IsOfKey entries k.items i

pub record AreHeld (entries : List Entry) (numbers : List (Key × ℕ)) : Type 0 where
  pub ordered : AreInOrder entries
  pub finds : Finds entries numbers
  pub finds_only : FindsOnly entries numbers
  pub different : AreDifferent (types_of entries)
