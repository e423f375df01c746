-- Methods as members of one type over a table, of which what was found out is remembered.
use Rattle.std.specs.Prelude.{◌≡◌, ℕ, List, [], Option, Some, None, refl}
use Rattle.std.specs.BTreeMap.{BTreeMap}
use Rattle.std.specs.Coded.{Coded, code_by, coded×, coded_list}
use Rattle.apt_base.specs.contracts.element.ElementRef as reference
use Rattle.apt_base.specs.declared.element.ElementRef.{ElementRef}
use Rattle.apt_base.specs.Limits.{max_type_steps}
use Rattle.element_table.specs.Held.{table_code}
use Rattle.element_table.specs.TypeTable.{TypeTable}
use Rattle.type_mirror.specs.contracts.mirror.Mirror as mirror
use Rattle.type_mirror.specs.declared.mirror.Mirror.{Mirror}
use Rattle.type_layers.specs.Layers.{declared_mirror}
use Rattle.type_levels.specs.declared.answer.Answer.{Answer}
use Rattle.type_numbers.specs.Numbers as numbers
use Rattle.type_numbers.specs.Numbers.{at, IsKnown, OptionStands, Stands}
use Rattle.type_numbers.specs.Remembered.{EachHas}
use Rattle.type_elements.specs.TypeOf.{type_of}
use Rattle.type_elements.specs.MemberElements.{class_element}
use Rattle.type_members.specs.MemberOf.{member_of}
use Rattle.type_relations.specs.Elements.{around_of}
use Rattle.type_memory.specs.Known.{Known}
use Rattle.type_overriding.specs.ByElements.{is_below, next_by_elements}
use Rattle.type_overriding.specs.Overrides as overriding

-- ---- the type of which they are members

pub record Container : Type 0 where
  pub table : TypeTable
  pub element : ElementRef

abbrev pub container_code : Coded Container
container_code =
    code_by (TypeTable × ElementRef) (coded× table_code reference.the_row.coded)
    (λ c. (c.table, c.element)) (λ p. record { table = p.0; element = p.1 }) (λ _. refl)

abbrev pub container_of : TypeTable → ElementRef → Container
container_of table element = record { table = table; element = element }

-- questions about two methods as members of it
abbrev pub has_subsignature : Container → ElementRef → ElementRef → Answer
has_subsignature c one other = overriding.signature_answer c.table c.element one other

abbrev pub overrides : Container → ElementRef → ElementRef → Answer
overrides c one other = overriding.overrides_answer c.table one other c.element

-- ---- the same with the types that have numbers, which are only added

pub record Seen : Type 0 where
  pub table : TypeTable
  pub element : ElementRef
  -- the mirrors in the order of their numbers
  pub types : List Mirror

abbrev pub seen_code : Coded Seen
seen_code =
    code_by (TypeTable × (ElementRef × List Mirror)) (coded× table_code (coded× reference.the_row.coded (coded_list mirror.the_row.coded)))
    (λ s. (s.table, (s.element, s.types))) (λ p. record { table = p.0; element = p.1.0; types = p.1.1 }) (λ _. refl)

abbrev pub seen_of : TypeTable → ElementRef → List Mirror → Seen
seen_of table element types = record { table = table; element = element; types = types }

-- types were added behind the others, and the table and the type are the same
pub record Grows (old new : Seen) : Type 0 where
  pub table : new.table ≡ old.table
  pub element : new.element ≡ old.element
  pub types : numbers.Grows old.types new.types

-- the type of a method as a member of the type of an element
abbrev pub member_in : TypeTable → ElementRef → ElementRef → Option Mirror
member_in table element m = member_of table max_type_steps (type_of table element) m

abbrev pub as_member : Seen → ElementRef → Option Mirror
as_member seen m = member_in seen.table seen.element m

-- whether the type is below the one of an element, by their elements alone
abbrev pub below_answer : Seen → ElementRef → Answer
below_answer seen declaring = is_below seen.table max_type_steps seen.element declaring

-- whether it is below the type that declares a method
abbrev pub below_declaring : Seen → ElementRef → Answer
below_declaring seen m = below_answer seen (around_of seen.table m)

-- questions about two methods
abbrev pub seen_below_both : Seen → ElementRef → ElementRef → Answer
seen_below_both seen one other = overriding.below_answer seen.table seen.element one other

abbrev pub seen_signature : Seen → ElementRef → ElementRef → Answer
seen_signature seen one other = overriding.signature_answer seen.table seen.element one other

abbrev pub seen_overrides : Seen → ElementRef → ElementRef → Answer
seen_overrides seen one other = overriding.overrides_answer seen.table one other seen.element

-- ---- what is remembered

-- the number stands for an element: it is that of its class type without arguments, which no other element has
abbrev pub IsFor : Seen → ℕ → ElementRef → Type 0
IsFor seen number m = Stands seen.types number (declared_mirror m None [])

-- under the number of an element is its type as a member
abbrev pub IsSignature : Seen → ℕ → Option ℕ → Type 0
IsSignature seen number found =
    IsKnown seen.types number
    × ((m : ElementRef) → class_element (at seen.types number) ≡ Some m → OptionStands seen.types found (as_member seen m))

-- under the number of an element is whether the type is below it
abbrev pub IsBelow : Seen → ℕ → Answer → Type 0
IsBelow seen number answer =
    IsKnown seen.types number
    × ((m : ElementRef) → class_element (at seen.types number) ≡ Some m → answer ≡ below_answer seen m)

-- what stands at each number is right, and searches go over a table that asks as this one
pub record AreRight (seen : Seen) (known : Known) (types : BTreeMap ℕ (Option ℕ)) (answers : BTreeMap ℕ Answer) : Type 0 where
  pub same : next_by_elements known.table ≡ next_by_elements seen.table
  pub signatures : EachHas (IsSignature seen) types
  pub below : EachHas (IsBelow seen) answers
