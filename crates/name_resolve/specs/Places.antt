-- The places where a simple name is looked for, in their order, each as what it finds.
use Rattle.std.specs.Prelude.{ℕ, List, [], ◌∷◌, ◌++◌, map, codes, if◌then◌else◌}
use Rattle.std.specs.List.{flat_map, list_any}
use Rattle.std.specs.Str.{bytes_eq}
use Rattle.decl_tree.specs.declared.compilation.UnitText.{UnitText}
use Rattle.element_table.specs.declared.part.Part.{Part}
use Rattle.element_table.specs.UnitNames.{in_package}
use Rattle.decl_elements.specs.Walk.{Place}
use Rattle.name_resolve.specs.Ways.{around}
use Rattle.name_resolve.specs.Finds.{Finds, Nothing, together, parameters_at, types_at}
use Rattle.name_resolve.specs.Meaning.{Tops, Members, Scope, Within, Header, scope_at, single_import, on_demand_import}

-- of an element: its member types, its type parameters, the member types that it inherits
abbrev pub element_places : Members → Part → UnitText → List ℕ → Place → List Finds
element_places members part u name at =
    types_at part u name at ∷ parameters_at part u name at ∷ members (record { part = part; unit = u; path = at.path }) name ∷ []

-- of a header: the type parameters of its element, and the places of what is around that
abbrev pub header_places : Members → Part → UnitText → List ℕ → List Place → List Finds
header_places members part u name [] = []
header_places members part u name (at ∷ above) = parameters_at part u name at ∷ flat_map (element_places members part u name) above

abbrev pub scope_places : Members → List ℕ → Scope → List Finds
scope_places members name (Within at) = flat_map (element_places members at.part at.unit name) (around at.unit at.path)
scope_places members name (Header at) = header_places members at.part at.unit name (around at.unit at.path)

-- of a unit: the types of the file, single imports, the types of the package, imports on demand with `java.lang`
abbrev pub unit_places : Tops → Members → Part → UnitText → List ℕ → List Finds
unit_places tops members part u name =
    (if list_any (bytes_eq name) u.siblings then tops part (in_package u.package name) else Nothing)
    ∷ together (map (single_import tops members part name) u.imports)
    ∷ tops part (in_package u.package name)
    ∷ together (tops part (in_package (codes "java.lang") name) ∷ map (on_demand_import tops members part name) u.imports)
    ∷ []

abbrev pub places : Tops → Members → Scope → List ℕ → List Finds
places tops members scope name = scope_places members name scope ++ unit_places tops members (scope_at scope).part (scope_at scope).unit name
