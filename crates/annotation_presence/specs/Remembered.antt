-- What the names of annotations were found to mean, and from which element on outwards a name has one meaning.
use Rattle.std.specs.Prelude.{◌≡◌, ℕ, Bool, true, false, not, ◌&&◌, List, ◌∷◌, Some, is_some}
use Rattle.std.specs.List.{AllByRecursion}
use Rattle.apt_base.specs.declared.element.ElementRef.{ElementRef}
use Rattle.element_table.specs.TypeTable.{TypeTable, IsTable, unit_of}
use Rattle.name_resolve.specs.Ways.{type_at}
use Rattle.name_resolve.specs.Finds.{Find, Finds, Nothing, One, Several, declared_types}
use Rattle.name_resolve.specs.Meaning.{Within, meaning}
use Rattle.name_resolve.specs.Annotations.{annotation_meaning}
use Rattle.name_resolve.specs.Parts.{declared_parameters}
use Rattle.name_resolve.specs.Placed.{IsPlaced}
use Rattle.name_resolve.specs.Mirrors.{superclass}
use Rattle.type_elements.specs.MemberElements.{class_element}
use Rattle.type_resolve.specs.Scopes.{find_in, scope_in}
use Rattle.annotation_presence.specs.Carried.{inherited}
use Rattle.annotation_presence.specs.declared.meanings.Meaning.{Meaning}
use Rattle.annotation_presence.specs.declared.meanings.Meanings.{Meanings}
use Rattle.annotation_presence.specs.declared.superclasses.Superclass.{Superclass}
use Rattle.annotation_presence.specs.declared.superclasses.Superclasses.{Superclasses}

-- ---- scopes

abbrev pub is_nothing : Finds → Bool
is_nothing Nothing = true
is_nothing (One f) = false
is_nothing Several = false

-- it is no type, and declares neither a type nor a type parameter of this name
abbrev pub declares_nothing : Find → List ℕ → Bool
declares_nothing f name = not (is_some (type_at f.unit f.path)) && is_nothing (declared_types f name) && is_nothing (declared_parameters f name)

-- in the same unit, and each name that begins with this one means the same there
pub record IsScope (f : Find) (first : List ℕ) (g : Find) : Type 0 where
  pub part : g.part ≡ f.part
  pub unit : g.unit ≡ f.unit
  pub same : (table : TypeTable) (more : List (List ℕ)) → meaning table (Within g) (first ∷ more) ≡ meaning table (Within f) (first ∷ more)

-- an element of the table, and what stands there in its unit
pub record StandsAt (table : TypeTable) (at : ElementRef) (f : Find) : Type 0 where
  pub placed : IsPlaced table f
  pub held : unit_of table at.unit ≡ Some f.unit
  pub is : f ≡ find_in table at

-- ---- meanings

abbrev pub IsMeaning : TypeTable → Meaning → Type 0
IsMeaning table m = m.annotation_type ≡ annotation_meaning table (scope_in table m.at) m.name

abbrev pub AreMeanings : TypeTable → Meanings → Type 0
AreMeanings table meanings = AllByRecursion (IsMeaning table) meanings.list.items

-- ---- superclasses

abbrev pub IsSuperclass : TypeTable → Superclass → Type 0
IsSuperclass table s = s.superclass ≡ class_element (superclass table (find_in table s.of))

abbrev pub AreSuperclasses : TypeTable → Superclasses → Type 0
AreSuperclasses table superclasses = AllByRecursion (IsSuperclass table) superclasses.list.items

-- ---- all of it

-- what is remembered over a table is right: its look-ups, the meanings, the superclasses, and where `Inherited` is declared
pub record IsRemembered (table looks : TypeTable) (meanings : Meanings) (superclasses : Superclasses) (declared : ElementRef) : Type 0 where
  pub is_table : IsTable table
  pub over : looks ≡ table
  pub right : AreMeanings table meanings
  pub above : AreSuperclasses table superclasses
  pub is : declared ≡ inherited
