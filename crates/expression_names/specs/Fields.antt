-- What a name means as a value (JLS 6.5.6): a field or an enum constant. Neither access nor `static` is tested.
-- A simple name is looked for in the types around the place where it is written, from the innermost outwards, then among static single imports, then among static
-- imports on demand. The names in front of the last one of a longer name mean a type.
use Rattle.std.specs.Prelude.{ℕ, zero, suc, Bool, false, List, [], ◌∷◌, map, Option, None, Some, if◌then◌else◌}
use Rattle.std.specs.Option.{option_map_or}
use Rattle.std.specs.Str.{bytes_eq}
use Rattle.apt_base.specs.Identifiers.{parts}
use Rattle.apt_base.specs.Limits.{max_type_steps}
use Rattle.apt_base.specs.declared.element.ElementRef.{ElementRef}
use Rattle.decl_tree.specs.declared.compilation.Import.{Import}
use Rattle.decl_tree.specs.declared.compilation.ImportKind.{ImportKind}
use Rattle.decl_tree.specs.declared.compilation.ImportKind.TheVariants as import
use Rattle.decl_tree.specs.declared.compilation.UnitText.{UnitText}
use Rattle.decl_tree.specs.declared.declaration.Member.{Member, out-Member}
use Rattle.decl_tree.specs.declared.declaration.Member.TheOpen.{Member-F}
use Rattle.decl_tree.specs.declared.declaration.TypeDecl.{TypeDecl}
use Rattle.decl_elements.specs.Nodes.{Node, Inside}
use Rattle.decl_elements.specs.Walk.{Place, place_of}
use Rattle.element_table.specs.declared.part.Part.{Part}
use Rattle.element_table.specs.TypeTable.{TypeTable}
use Rattle.name_resolve.specs.Ways.{around, node_at}
use Rattle.name_resolve.specs.Finds.{Find, Finds, Nothing, together, first_of, children_where}
use Rattle.name_resolve.specs.Meaning.{Within, tops_of, members_of, imported, ends_in, but_last, qualifier_meaning}
use Rattle.name_resolve.specs.Mirrors.{superclass, interfaces}
use Rattle.type_resolve.specs.Scopes.{find_in}
use Rattle.type_elements.specs.MemberElements.{class_elements}

-- ---- the fields of a type

abbrev pub value_name : Member-F Member TypeDecl → Option (List ℕ)
value_name (Member-F.Field field) = Some field.name
value_name (Member-F.Constant constant) = Some constant.name
value_name _ = None

-- a field or an enum constant of this name
abbrev pub is_field_named : List ℕ → Node → Bool
is_field_named name (Inside kind member) = option_map_or (bytes_eq name) (value_name (out-Member member)) false
is_field_named name _ = false

abbrev pub fields_in : Find → List ℕ → Option Node → Finds
fields_in f name None = Nothing
fields_in f name (Some node) = children_where (is_field_named name) f.part f.unit (place_of f.path node)

-- those that it declares
unfoldable pub declared_fields : Find → List ℕ → Finds
declared_fields f name = fields_in f name (node_at f.unit f.path)

-- the class or interface types of its header, the superclass before the interfaces
abbrev pub supertypes : TypeTable → Find → List ElementRef
supertypes table f = class_elements (superclass table f ∷ interfaces table f)

-- with this many levels of supertypes: those that it declares, or else those that its supertypes have with one level less (JLS 8.3, 9.3)
unfoldable pub fields_within : TypeTable → ℕ → Find → List ℕ → Finds
fields_within table zero f name = declared_fields f name
fields_within table (suc levels) f name =
    first_of (declared_fields f name ∷ together (map (λ at. fields_within table levels (find_in table at) name) (supertypes table f)) ∷ [])

unfoldable pub fields : TypeTable → Find → List ℕ → Finds
fields table = fields_within table max_type_steps

-- of the type that is found, if one is
abbrev pub fields_of : TypeTable → Finds → List ℕ → Finds
fields_of table = members_of (fields table)

-- ---- simple names

abbrev pub fields_around : TypeTable → Part → UnitText → List ℕ → List Place → Finds
fields_around table part u name [] = Nothing
fields_around table part u name (at ∷ above) =
    first_of (fields table (record { part = part; unit = u; path = at.path }) name ∷ fields_around table part u name above ∷ [])

-- in what stands there and in all that is around it
unfoldable pub enclosing_fields : TypeTable → Find → List ℕ → Finds
enclosing_fields table f name = fields_around table f.part f.unit name (around f.unit f.path)

-- by an import of these names, if it is static and of a single name; the name in front of the last one is the type
abbrev pub field_by_single : TypeTable → Part → List ℕ → List (List ℕ) → ImportKind → Finds
field_by_single table part name names import.StaticSingle =
    if ends_in name names then fields_of table (imported (tops_of table) part (but_last names)) name else Nothing
field_by_single table part name names _ = Nothing

-- by one of these names, if it is static and on demand
abbrev pub field_by_on_demand : TypeTable → Part → List ℕ → List (List ℕ) → ImportKind → Finds
field_by_on_demand table part name names import.StaticOnDemand = fields_of table (imported (tops_of table) part names) name
field_by_on_demand table part name names _ = Nothing

unfoldable pub field_by_single_import : TypeTable → Part → List ℕ → Import → Finds
field_by_single_import table part name i = field_by_single table part name (parts i.name) i.kind

unfoldable pub field_by_import_on_demand : TypeTable → Part → List ℕ → Import → Finds
field_by_import_on_demand table part name i = field_by_on_demand table part name (parts i.name) i.kind

unfoldable pub simple_field : TypeTable → Find → List ℕ → Finds
simple_field table at name =
    first_of (
    enclosing_fields table at name
    ∷ together (map (field_by_single_import table at.part name) at.unit.imports)
    ∷ together (map (field_by_import_on_demand table at.part name) at.unit.imports)
    ∷ []
    )

-- ---- all names

abbrev pub last_of : List (List ℕ) → List ℕ
last_of [] = []
last_of (last ∷ []) = last
last_of (first ∷ next ∷ more) = last_of (next ∷ more)

-- what the names mean within an element; where a place finds two different ones they name nothing
unfoldable pub field_meaning : TypeTable → Find → List (List ℕ) → Finds
field_meaning table at [] = Nothing
field_meaning table at (name ∷ []) = simple_field table at name
field_meaning table at (name ∷ next ∷ more) =
    fields_of table (qualifier_meaning table (Within at) (but_last (name ∷ next ∷ more))) (last_of (next ∷ more))
