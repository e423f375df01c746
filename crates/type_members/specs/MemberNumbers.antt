-- Types of members by the numbers of the types in which they are seen.
use Rattle.std.specs.Prelude.{ℕ, List, map, find, Option}
use Rattle.apt_base.specs.declared.element.ElementRef.{ElementRef}
use Rattle.apt_base.specs.Limits.{max_type_steps}
use Rattle.element_table.specs.TypeTable.{TypeTable}
use Rattle.type_mirror.specs.declared.mirror.Mirror.{Mirror}
use Rattle.type_numbers.specs.Numbers.{at, OptionStands}
use Rattle.type_members.specs.MemberOf.{is_of, nearest, seen_in, member_of}

-- the first one of an element among the types with these numbers
abbrev pub first_at : List Mirror → ElementRef → List ℕ → Option Mirror
first_at types element level = find (is_of element) (map (at types) level)

-- the same, or else further on
abbrev pub nearest_at : TypeTable → List Mirror → ElementRef → ℕ → List ℕ → Option Mirror
nearest_at table types element steps level = nearest table element steps (map (at types) level)

-- the type of a member as it is seen in the type with a number, which declares it
abbrev pub seen_at : TypeTable → List Mirror → ElementRef → ℕ → Option Mirror
seen_at table types element declaring = seen_in table max_type_steps element (at types declaring)

-- the type of a member as a member of the type with a number
abbrev pub member_at : TypeTable → List Mirror → ℕ → ElementRef → Option Mirror
member_at table types container element = member_of table max_type_steps (at types container) element

-- ---- what a call gives that may number more types: a number of it where it is not open

abbrev pub NearestStands : TypeTable → List Mirror → List Mirror → ElementRef → ℕ → List ℕ → Option ℕ → Type 0
NearestStands table old new element steps level number = OptionStands new number (nearest_at table old element steps level)

abbrev pub SeenStands : TypeTable → List Mirror → List Mirror → ElementRef → ℕ → Option ℕ → Type 0
SeenStands table old new element declaring number = OptionStands new number (seen_at table old element declaring)

abbrev pub MemberStands : TypeTable → List Mirror → List Mirror → ℕ → ElementRef → Option ℕ → Type 0
MemberStands table old new container element number = OptionStands new number (member_at table old container element)
