-- The elements of a table. An element is named by a unit and a path in it; a package stands under the name of its unit `package-info`, also where only a type of it is there.
use Rattle.std.specs.Prelude.{ℕ, ◌-◌, Bool, true, false, not, ◌&&◌, ◌||◌, List, [], ◌∷◌, length, take, nat_eq, codes, Option, Some, None, option_map, if◌then◌else◌}
use Rattle.std.specs.List.{list_any, ends_with}
use Rattle.std.specs.Option.{option_and_then, option_or}
use Rattle.std.specs.Str.{bytes_eq}
use Rattle.std.specs.FinMap as fin
use Rattle.apt_base.specs.declared.element.ElementRef.{ElementRef}
use Rattle.decl_tree.specs.declared.compilation.Body.{Body}
use Rattle.decl_tree.specs.declared.compilation.Body.TheVariants.{Declared, Info}
use Rattle.decl_tree.specs.declared.compilation.UnitText.{UnitText}
use Rattle.decl_elements.specs.Nodes.{Node, OfPackage, root, down, children}
use Rattle.decl_elements.specs.Modifiers.{modifiers}
use Rattle.decl_elements.specs.Shown.{Shown, element_of}
use Rattle.decl_elements.specs.Canonical.{canonical_down}
use Rattle.element_table.specs.UnitNames.{in_package}
use Rattle.element_table.specs.TypeTable.{Units, TypeTable, unit_of}

-- ---- packages

-- the name under which a package stands
abbrev pub info_name : List ℕ → List ℕ
info_name «package» = in_package «package» (codes "package-info")

-- the package that may stand under a name: the unnamed one has no dot before `package-info`, and no other name is empty
unfoldable pub info_package : List ℕ → Option (List ℕ)
info_package name =
    if bytes_eq name (codes "package-info") then Some []
    else if ends_with nat_eq name (codes ".package-info") && not (bytes_eq name (codes ".package-info")) then Some (take (length name - 13) name)
    else None

abbrev pub is_type : Body → Bool
is_type (Declared declaration) = true
is_type (Info annotations doc) = false

-- whether a unit declares a type of this package
unfoldable pub declares_in : List ℕ → UnitText → Bool
declares_in «package» unit = is_type unit.body && bytes_eq unit.package «package»

-- whether a part has a type of this package
abbrev pub part_has_types : List ℕ → Units → Bool
part_has_types «package» units = list_any (declares_in «package») (fin.values units)

abbrev pub has_types : TypeTable → List ℕ → Bool
has_types table «package» = part_has_types «package» table.source || part_has_types «package» table.stub

-- ---- elements

-- this package, if a type of it is there
abbrev pub typed_package : TypeTable → Option (List ℕ) → Option (List ℕ)
typed_package table None = None
typed_package table (Some «package») = if has_types table «package» then Some «package» else None

-- what stands at a path from a name: the unit of that name stands before a package
abbrev pub node_from : TypeTable → Option UnitText → List ℕ → List ℕ → Option Node
node_from table (Some unit) name path = down path (root unit)
node_from table None name path = option_and_then (λ «package». down path (OfPackage None)) (typed_package table (info_package name))

-- what an element is, if it is there
unfoldable pub node_at : TypeTable → ElementRef → Option Node
node_at table at = node_from table (unit_of table at.unit) at.unit at.path

abbrev pub element_at : TypeTable → ElementRef → Option Shown
element_at table at = option_map element_of (node_at table at)

-- how many children it has
abbrev pub children_at : TypeTable → ElementRef → Option ℕ
children_at table at = option_map (λ node. length (children node)) (node_at table at)

abbrev pub modifiers_at : TypeTable → ElementRef → Option ℕ
modifiers_at table at = option_map modifiers (node_at table at)

-- ---- the element around another

abbrev pub reference : List ℕ → List ℕ → ElementRef
reference name path = record { unit = name; path = path }

abbrev pub package_around : Body → UnitText → Option ElementRef
package_around (Declared declaration) unit = Some (reference (info_name unit.package) [])
package_around (Info annotations doc) unit = None

abbrev pub package_of : Option UnitText → Option ElementRef
package_of None = None
package_of (Some unit) = package_around unit.body unit

-- the path without its last step
unfoldable pub above : List ℕ → List ℕ → Option ElementRef
above name [] = None
above name (at ∷ path) = Some (reference name (take (length path) (at ∷ path)))

-- of a top-level type its package, of a package none, and of any other element that at the path without its last step
unfoldable pub enclosing_at : TypeTable → ElementRef → Option ElementRef
enclosing_at table at = option_and_then (λ node. option_or (above at.unit at.path) (package_of (unit_of table at.unit))) (node_at table at)

-- ---- canonical names

-- the name of the type of a unit, or of the package of which it is the unit; that of the unnamed package is empty
abbrev pub root_name : List ℕ → UnitText → Body → List ℕ
root_name name unit (Declared declaration) = name
root_name name unit (Info annotations doc) = unit.package

abbrev pub canonical_from : TypeTable → Option UnitText → List ℕ → List ℕ → Option (List ℕ)
canonical_from table (Some unit) name path = canonical_down (root_name name unit unit.body) path (root unit)
canonical_from table None name path = option_and_then (λ «package». canonical_down «package» path (OfPackage None)) (typed_package table (info_package name))

-- of a type or a package; None for any other element, and where nothing stands
unfoldable pub canonical_at : TypeTable → ElementRef → Option (List ℕ)
canonical_at table at = canonical_from table (unit_of table at.unit) at.unit at.path
