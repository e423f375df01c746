-- How the types that are reached from a type are gathered: by the numbers of class types of them, and how many of these were looked at.
use Rattle.std.specs.Prelude.{◌≡◌, ℕ, ◌+◌, Bool, true, false, ◌||◌, List, [], ◌++◌, map, take, Option, None, Some}
use Rattle.std.specs.List.{list_any}
use Rattle.apt_base.specs.Elements.{same_element}
use Rattle.apt_base.specs.declared.element.ElementRef.{ElementRef}
use Rattle.element_table.specs.TypeTable.{TypeTable}
use Rattle.type_mirror.specs.declared.mirror.Mirror.{Mirror}
use Rattle.type_elements.specs.MemberElements.{class_element}
use Rattle.type_numbers.specs.Numbers.{at, AreKnown}
use Rattle.type_members.specs.MemberOf.{is_of}
use Rattle.type_members.specs.Reached.{steps_from, types_from, reached_within, IsReached}

-- ---- elements

abbrev pub is_among : List ElementRef → ElementRef → Bool
is_among list element = list_any (same_element element) list

-- one of the types with these numbers is a class type of this element
abbrev pub has_at : List Mirror → List ℕ → ElementRef → Bool
has_at types numbers element = list_any (is_of element) (map (at types) numbers)

-- ---- gathering

-- numbers are added behind the others: those of class types of the elements of these types
pub record Adds (old new : List Mirror) (numbers longer : List ℕ) (types : List Mirror) : Type 0 where
  pub known : AreKnown new longer
  pub more : List ℕ
  pub behind : longer ≡ numbers ++ more
  pub has : (element : ElementRef) → has_at new longer element ≡ (has_at old numbers element || list_any (is_of element) types)

abbrev pub AddsEach : List Mirror → List Mirror → List ℕ → List ℕ → List ℕ → Type 0
AddsEach old new numbers longer more = Adds old new numbers longer (map (at old) more)

-- the direct supertypes of the type of an element that may be absent
abbrev pub types_of : TypeTable → Option ElementRef → List Mirror
types_of table None = []
types_of table (Some element) = types_from table element

-- the elements are added to which one step leads from the element of the type with a number
abbrev pub AddsSteps : TypeTable → List Mirror → List Mirror → List ℕ → List ℕ → ℕ → Type 0
AddsSteps table old new numbers longer number = Adds old new numbers longer (types_of table (class_element (at old number)))

-- this many numbers of a list were looked at
pub record IsGathering (table : TypeTable) (from to : ElementRef) (types : List Mirror) (numbers : List ℕ) (done : ℕ) : Type 0 where
  pub known : AreKnown types numbers
  pub itself : has_at types numbers from ≡ true
  -- each is reached by at most as many steps as elements were looked at
  pub reached : (element : ElementRef) → has_at types numbers element ≡ true → reached_within table done from element ≡ true
  -- a step from one that was looked at leads to one of the list
  pub closed : (element next : ElementRef) → has_at types (take done numbers) element ≡ true → is_among (steps_from table element) next ≡ true
      → has_at types numbers next ≡ true
  -- the one that is looked for is none of those that were looked at
  pub missed : has_at types (take done numbers) to ≡ false

-- ---- laws

-- what passes this test has all that is reached from one that passes it
abbrev pub ClosedTestsHold : Type 0
ClosedTestsHold =
    (table : TypeTable) (test : ElementRef → Bool) (from to : ElementRef)
    → ((element next : ElementRef) → test element ≡ true → is_among (steps_from table element) next ≡ true → test next ≡ true)
    → test from ≡ true → IsReached table from to → test to ≡ true

-- what a step leads to from what is reached by so many steps is reached by one step more
abbrev pub StepsReach : Type 0
StepsReach =
    (table : TypeTable) (from element next : ElementRef) (n : ℕ)
    → reached_within table n from element ≡ true → is_among (steps_from table element) next ≡ true
    → reached_within table (n + 1) from next ≡ true
