-- A level of supertypes by numbers, each type once: the same first one for each test as in the whole level.
use Rattle.std.specs.Prelude.{◌≡◌, ℕ, Bool, List, map, find, Option, None, Some}
use Rattle.element_table.specs.TypeTable.{TypeTable}
use Rattle.type_mirror.specs.declared.mirror.Mirror.{Mirror}
use Rattle.type_numbers.specs.Numbers.{at, AreKnown}
use Rattle.apt_base.specs.declared.element.ElementRef.{ElementRef}
use Rattle.type_members.specs.MemberOf.{further, nearest}

-- no test tells one list from the other by the first type that passes it
abbrev pub Alike : List Mirror → List Mirror → Type 0
Alike ones others = (test : Mirror → Bool) → find test ones ≡ find test others

pub record IsLevel (types : List Mirror) (numbers : List ℕ) (level : List Mirror) : Type 0 where
  pub known : AreKnown types numbers
  pub alike : Alike (map (at types) numbers) level

-- there is none exactly where the next level is open
abbrev pub MayBeLevel : List Mirror → Option (List ℕ) → Option (List Mirror) → Type 0
MayBeLevel types None None = Unit {0}
MayBeLevel types (Some numbers) (Some level) = IsLevel types numbers level
MayBeLevel types _ _ = ⊥

-- the next level of the types with these numbers
abbrev pub next_level : TypeTable → List Mirror → List ℕ → Option (List Mirror)
next_level table types numbers = further table (map (at types) numbers)

-- the same is found in lists that no test tells apart
abbrev pub NearestOfAlike : Type 0
NearestOfAlike =
    (table : TypeTable) (at : ElementRef) (n : ℕ) (ones others : List Mirror)
    → Alike ones others → nearest table at n ones ≡ nearest table at n others
