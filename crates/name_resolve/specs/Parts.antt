-- Parts of a look-up, as the calls of this crate have them.
use Rattle.std.specs.Prelude.{ℕ, Bool, List, [], ◌∷◌, map, Option, None, Some, codes, if◌then◌else◌}
use Rattle.std.specs.List.{list_any}
use Rattle.std.specs.Str.{bytes_eq}
use Rattle.decl_tree.specs.declared.compilation.UnitText.{UnitText}
use Rattle.decl_elements.specs.Nodes.{Node}
use Rattle.element_table.specs.declared.part.Part.{Part}
use Rattle.element_table.specs.UnitNames.{in_package}
use Rattle.name_resolve.specs.Ways.{around, node_at}
use Rattle.name_resolve.specs.Finds.{Find, Finds, Nothing, together, first_of, parameters_at, declared_types}
use Rattle.name_resolve.specs.Meaning.{Tops, Members, scope_of, tops_of, members_within, in_elements, in_header, ends_in, imported, single_import, on_demand_import, qualifier_meaning}
use Rattle.name_resolve.specs.QualifiedNames.{Prefix, prefixes}
use Rattle.decl_tree.specs.declared.compilation.Import.{Import}
use Rattle.element_table.specs.TypeTable.{TypeTable}
use denote.Ref.{Bor}

abbrev pub parameters_in : Part → UnitText → List ℕ → List ℕ → Option Node → Finds
parameters_in part u name path None = Nothing
parameters_in part u name path (Some node) = parameters_at part u name (record { path = path; node = node })

-- the type parameters of this name that an element declares
unfoldable pub declared_parameters : Find → List ℕ → Finds
declared_parameters f name = parameters_in f.part f.unit name f.path (node_at f.unit f.path)

-- the three places of one element
abbrev pub element_finds : Members → Find → List ℕ → Finds
element_finds members f name = first_of (declared_types f name ∷ declared_parameters f name ∷ members f name ∷ [])

-- the places of an element and of all that encloses it
abbrev pub enclosing_finds : Members → Find → List ℕ → Finds
enclosing_finds members f name = in_elements members f.part f.unit name (around f.unit f.path)

-- the places of a header
abbrev pub header_finds : Members → Find → List ℕ → Finds
header_finds members f name = in_header members f.part f.unit name (around f.unit f.path)

-- what stands at another path of the same unit
abbrev pub at_path : Find → List ℕ → Find
at_path f path = record { part = f.part; unit = f.unit; path = path }

-- the last place: `java.lang` and all imports on demand
abbrev pub on_demand_finds : Tops → Members → Part → UnitText → List ℕ → Finds
on_demand_finds tops members part u name =
    together (tops part (in_package (codes "java.lang") name) ∷ map (on_demand_import tops members part name) u.imports)

-- what single imports give together, and what imports on demand give with what was found before
abbrev pub single_finds : Tops → Members → Part → List ℕ → List Import → Finds
single_finds tops members part name imports = together (map (single_import tops members part name) imports)

abbrev pub demand_finds : Tops → Members → Part → List ℕ → Finds → List Import → Finds
demand_finds tops members part name before imports = together (before ∷ map (on_demand_import tops members part name) imports)

-- what a name means by a single import that is not static
abbrev pub by_single_import : Tops → Part → List ℕ → List (List ℕ) → Finds
by_single_import tops part name names = if ends_in name names then imported tops part names else Nothing

-- member types with this many levels of supertypes left
abbrev pub left : TypeTable → ℕ → Members
left table levels = members_within (tops_of table) levels

-- the texts that are borrowed
abbrev pub lent : List (Bor (List ℕ)) → List (List ℕ)
lent names = map (λ n. n.now) names

-- the prefixes of a name by its first part and the others
abbrev pub prefixes_of : List ℕ → List (Bor (List ℕ)) → List Prefix
prefixes_of first others = prefixes (first ∷ lent others)

-- ---- look-ups in a table

abbrev pub file_finds_within : TypeTable → Part → UnitText → List ℕ → Finds
file_finds_within table part u name = if list_any (bytes_eq name) u.siblings then tops_of table part (in_package u.package name) else Nothing

-- what stands beside a unit, in its package
abbrev pub tops_beside : TypeTable → Part → UnitText → List ℕ → Finds
tops_beside table part u name = tops_of table part (in_package u.package name)

-- what names in front of another one mean there, through all levels
abbrev pub qualifier_at : TypeTable → Bool → Find → List (List ℕ) → Finds
qualifier_at table header f names = qualifier_meaning table (scope_of header f) names
