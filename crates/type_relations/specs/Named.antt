-- Types by the look-ups of names: top-level types by their names, what is written at an element, bounds, and supertypes as a header has them.
use Rattle.std.specs.Prelude.{ℕ, Bool, true, false, List, [], ◌∷◌, ◌++◌, map, codes, Option, None, Some, if◌then◌else◌}
use Rattle.apt_base.specs.declared.element.ElementRef.{ElementRef}
use Rattle.decl_tree.specs.declared.type_text.TypeText.{TypeText}
use Rattle.decl_elements.specs.Nodes.{Node, OfTypeParam}
use Rattle.element_table.specs.declared.part.Part.{Part}
use Rattle.element_table.specs.declared.part.Part.TheVariants.{Source, Stub}
use Rattle.element_table.specs.TypeTable.{TypeTable, part_of}
use Rattle.element_table.specs.TableElements.{node_at}
use Rattle.type_mirror.specs.declared.mirror.Mirror.{Mirror}
use Rattle.type_layers.specs.Layers.{Layer, Nothing, layer}
use Rattle.name_resolve.specs.Meaning.{tops_of}
use Rattle.name_resolve.specs.Mirrors.{found_mirror, type_meaning, superclass, interfaces}
use Rattle.type_resolve.specs.Scopes.{find_in, scope_in, is_type, or_stub}
use Rattle.type_relations.specs.Elements.{is_interface}

-- ---- types by their names

-- the top-level type of this name that a unit of a part meets, without arguments; the error type with this text where it meets none
unfoldable pub named_in : TypeTable → Part → List ℕ → Mirror
named_in table part name = found_mirror (tops_of table part name) name None []

-- of the whole table
abbrev pub type_named : TypeTable → List ℕ → Mirror
type_named table name = named_in table Source name

abbrev pub object : TypeTable → Mirror
object table = type_named table (codes "java.lang.Object")

-- of the stubs alone
abbrev pub string : TypeTable → Mirror
string table = named_in table Stub (codes "java.lang.String")

-- `java.lang.Object` as the unit of this element meets it
abbrev pub object_at : TypeTable → ElementRef → Mirror
object_at table at = named_in table (or_stub (part_of table at.unit)) (codes "java.lang.Object")

-- ---- what is written at an element

-- the type that a text means in an element
abbrev pub meaning_in : TypeTable → ElementRef → TypeText → Mirror
meaning_in table at text = type_meaning table (scope_in table at) text

-- those of several texts
abbrev pub written_types : TypeTable → ElementRef → List TypeText → List Mirror
written_types table at texts = map (meaning_in table at) texts

-- ---- bounds

abbrev pub written_bounds : Option Node → List TypeText
written_bounds (Some (OfTypeParam parameter)) = parameter.bounds
written_bounds _ = []

abbrev pub only_object : TypeTable → ElementRef → List Mirror
only_object table at = object_at table at ∷ []

abbrev pub bounds_or_object : TypeTable → ElementRef → List TypeText → List Mirror
bounds_or_object table at [] = only_object table at
bounds_or_object table at (text ∷ texts) = written_types table at (text ∷ texts)

-- the bounds of a type parameter; `java.lang.Object` where none is written (JLS 4.4)
unfoldable pub bounds : TypeTable → ElementRef → List Mirror
bounds table at = bounds_or_object table at (written_bounds (node_at table at))

abbrev pub first_or : Mirror → List Mirror → Mirror
first_or other [] = other
first_or other (first ∷ more) = first

-- the first one of these
abbrev pub first_of : TypeTable → ElementRef → List TypeText → Mirror
first_of table at texts = first_or (object_at table at) (bounds_or_object table at texts)

-- there is always one
unfoldable pub first_bound : TypeTable → ElementRef → Mirror
first_bound table at = first_of table at (written_bounds (node_at table at))

-- ---- supertypes as a header has them

abbrev pub is_nothing : Layer Mirror → Bool
is_nothing Nothing = true
is_nothing _ = false

abbrev pub unless_nothing : Mirror → List Mirror
unless_nothing m = if is_nothing (layer m) then [] else m ∷ []

-- the superclass, if there is one
abbrev pub superclasses : TypeTable → ElementRef → List Mirror
superclasses table at = unless_nothing (superclass table (find_in table at))

-- the superclass before the interfaces, as they are written or implied; of what is no type none
unfoldable pub header_types : TypeTable → ElementRef → List Mirror
header_types table at = if is_type table at then superclasses table at ++ interfaces table (find_in table at) else []

abbrev pub object_of_interface : TypeTable → ElementRef → List Mirror
object_of_interface table at = if is_interface table at then only_object table at else []

abbrev pub or_object : TypeTable → ElementRef → List Mirror → List Mirror
or_object table at [] = object_of_interface table at
or_object table at (first ∷ more) = first ∷ more

-- the same, but an interface without any has `java.lang.Object` (JLS 4.10.2)
unfoldable pub declared_supertypes : TypeTable → ElementRef → List Mirror
declared_supertypes table at = or_object table at (header_types table at)
