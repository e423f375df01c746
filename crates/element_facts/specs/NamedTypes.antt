-- Types and packages by their canonical names (JLS 6.7; JSR 269, `Elements.getTypeElement`,
-- `getPackageElement`).
use Rattle.std.specs.Prelude.{ℕ, List, [], ◌∷◌, Option, None, Some}
use Rattle.std.specs.Option.{option_and_then}
use Rattle.apt_base.specs.Identifiers.{parts}
use Rattle.apt_base.specs.declared.element.ElementRef.{ElementRef}
use Rattle.decl_elements.specs.Nodes.{Node, OfPackage}
use Rattle.element_table.specs.declared.part.Part.TheVariants.{Source, Stub}
use Rattle.element_table.specs.TypeTable.{TypeTable}
use Rattle.element_table.specs.TableElements.{node_at, reference, info_name}
use Rattle.name_resolve.specs.Finds.{Finds, One, first_of}
use Rattle.name_resolve.specs.Meaning.{tops_of, imported}
use Rattle.name_resolve.specs.Mirrors.{ref_of}

-- ---- types

-- among the stubs, and where they have none in the whole table: from each by the shortest prefix that is a
-- top-level type there, and then by declared member types
abbrev pub met_type : TypeTable → List (List ℕ) → Finds
met_type table names =
    first_of (imported (tops_of table) Stub names ∷ imported (tops_of table) Source names ∷ [])

-- different types of one name are none
abbrev pub found_element : Finds → Option ElementRef
found_element (One f) = Some (ref_of f)
found_element _ = None

unfoldable pub type_element : TypeTable → List ℕ → Option ElementRef
type_element table name = found_element (met_type table (parts name))

-- ---- packages

abbrev pub info_reference : List ℕ → ElementRef
info_reference «package» = reference (info_name «package») []

abbrev pub as_package : ElementRef → Node → Option ElementRef
as_package at (OfPackage info) = Some at
as_package at _ = None

-- where its unit `package-info` is there, or a type of it
unfoldable pub package_element : TypeTable → List ℕ → Option ElementRef
package_element table name =
    option_and_then (as_package (info_reference name)) (node_at table (info_reference name))
