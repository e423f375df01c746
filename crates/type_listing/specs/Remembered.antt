-- The members of types that are remembered, each with the least number of levels of supertypes within which they are closed.
use Rattle.std.specs.Prelude.{◌≡◌, ℕ, zero, suc, ◌≤◌, List, map, fold, Option, None, Some, Vec, nat_le, if◌then◌else◌}
use Rattle.std.specs.BTreeMap.{is_at}
use Rattle.std.specs.Map.{lookup}
use Rattle.std.specs.Cmp.Lexicographic.{slice_cmp}
use Rattle.std.specs.Ordering.{nat_cmp}
use Rattle.std.specs.declared.alloc.Global.{Global}
use Rattle.apt_base.specs.declared.element.ElementRef.{ElementRef}
use Rattle.element_table.specs.TypeTable.{TypeTable}
use Rattle.type_listing.specs.Members.{Elements, with_supertype, members}
use Rattle.type_listing.specs.declared.known.KnownMembers.{KnownMembers}
use Rattle.type_numbers.specs.Keys.{element_key}

-- the list where there are as many levels, and open where there are fewer
abbrev pub closed_from : ℕ → Elements → ℕ → Option Elements
closed_from levels list n = if nat_le levels n then Some list else None

-- these are the members of a type, whatever the number of levels
pub record AreMembers (table : TypeTable) (at : ElementRef) (known : KnownMembers) : Type 0 where
  pub within : (n : ℕ) → members table n at ≡ closed_from known.levels known.list n

-- what is known of the members of a type within this many levels; nothing where they are open
abbrev pub AreKnownWithin : TypeTable → ElementRef → ℕ → Option KnownMembers → Type 0
AreKnownWithin table at levels None = members table levels at ≡ None
AreKnownWithin table at levels (Some known) = AreMembers table at known × (known.levels ≤ levels)

-- ---- a list that is gathered

-- what the supertypes of a type have with this many levels
abbrev pub above : TypeTable → ℕ → ElementRef → Option Elements
above table zero super = None
above table (suc n) super = members table n super

-- the members of a type are those so far, with what these supertypes have
pub record IsGathered (table : TypeTable) (at : ElementRef) (supers : List ElementRef) (levels : ℕ) (list : Elements) : Type 0 where
  pub gathered : (n : ℕ) → members table n at ≡ fold (with_supertype table at) (closed_from levels list n) (map (above table n) supers)

-- ---- what is remembered, by the key of an element

abbrev pub Key : Type 0
Key = Vec ℕ Global

abbrev pub known_at : List (Key × KnownMembers) → List ℕ → Option KnownMembers
known_at entries key = lookup (is_at (λ (k : Key). slice_cmp nat_cmp key k.items)) entries

-- what stands at the key of an element has its members
unfoldable pub AreRight : TypeTable → List (Key × KnownMembers) → Type 0
AreRight table entries =
    (at : ElementRef) (k : Key) (known : KnownMembers) → k.items ≡ element_key at
    → known_at entries k.items ≡ Some known → AreMembers table at known
