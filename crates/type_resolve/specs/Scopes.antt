-- From an element of a table to what a look-up there begins at.
use Rattle.std.specs.Prelude.{◌≡◌, ℕ, Bool, true, false, List, [], Option, None, Some, is_some, if◌then◌else◌}
use Rattle.apt_base.specs.declared.element.ElementRef.{ElementRef}
use Rattle.decl_tree.specs.declared.compilation.UnitText.{UnitText}
use Rattle.element_table.specs.declared.part.Part.{Part}
use Rattle.element_table.specs.declared.part.Part.TheVariants.{Source, Stub}
use Rattle.element_table.specs.TypeTable.{TypeTable, IsTable, unit_of, part_of}
use Rattle.element_table.specs.TableElements as elements
use Rattle.element_table.specs.TableElements.{part_has_types, canonical_at}
use Rattle.element_table.specs.UnitNames.{unit_name}
use Rattle.name_resolve.specs.Ways.{type_at}
use Rattle.name_resolve.specs.Finds.{Find}
use Rattle.name_resolve.specs.Meaning.{Scope, Within}
use Rattle.name_resolve.specs.Placed.{bare_unit}

abbrev pub or_stub : Option Part → Part
or_stub None = Stub
or_stub (Some part) = part

abbrev pub or_unnamed : Option (List ℕ) → List ℕ
or_unnamed None = []
or_unnamed (Some «package») = «package»

-- the part of a package without a unit: the sources where a source declares a type of it, else the stubs
abbrev pub package_part : TypeTable → List ℕ → Part
package_part table «package» = if part_has_types «package» table.source then Source else Stub

-- the package whose canonical name is that of what stands there
abbrev pub package_at : TypeTable → ElementRef → List ℕ
package_at table at = or_unnamed (canonical_at table at)

-- what stands in a package without a unit stands in a bare one
abbrev pub find_bare : TypeTable → List ℕ → List ℕ → Find
find_bare table «package» path = record { part = package_part table «package»; unit = bare_unit «package»; path = path }

-- an element by the unit of its name; an element without one is a package
abbrev pub find_from : TypeTable → Option UnitText → ElementRef → Find
find_from table (Some unit) at = record { part = or_stub (part_of table at.unit); unit = unit; path = at.path }
find_from table None at = find_bare table (package_at table at) at.path

unfoldable pub find_in : TypeTable → ElementRef → Find
find_in table at = find_from table (unit_of table at.unit) at

-- a name that is written in an element sees its members; one of its `extends` or `implements` clause has the scope `Header` in place of this one
abbrev pub scope_in : TypeTable → ElementRef → Scope
scope_in table at = Within (find_in table at)

-- something stands there
abbrev pub IsElement : TypeTable → ElementRef → Type 0
IsElement table at = is_some (elements.node_at table at) ≡ true

-- whether a type stands at a path of a unit, and in a table
abbrev pub is_type_in : Option UnitText → List ℕ → Bool
is_type_in None path = false
is_type_in (Some unit) path = is_some (type_at unit path)

abbrev pub is_type : TypeTable → ElementRef → Bool
is_type table at = is_type_in (unit_of table at.unit) at.path

abbrev pub IsType : TypeTable → ElementRef → Type 0
IsType table at = is_type table at ≡ true

-- the bare unit of a package, under whose name nothing stands in the table
pub record IsBareUnit (table : TypeTable) («package» : List ℕ) (unit : UnitText) : Type 0 where
  pub is_table : IsTable table
  pub value : unit ≡ bare_unit «package»
  pub free : unit_of table (unit_name unit) ≡ None
