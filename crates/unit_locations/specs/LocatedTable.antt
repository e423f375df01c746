-- A type table with what is known of each unit beside its declarations: the path of the file that gave it, and the line of each of its elements. Both enter by one
-- call, so that they have the same names.
use Rattle.std.specs.Prelude.{◌≡◌, ℕ, false, List, [], Option, Some, None, Result, Ok, Err}
use Rattle.std.specs.Option.{option_and_then, option_map}
use Rattle.std.specs.Ordering.{nat_cmp}
use Rattle.std.specs.Cmp.Lexicographic.{slice_cmp}
use Rattle.std.specs.FinMap as fin
use Rattle.std.specs.FinMap.{FinMap}
use Rattle.apt_base.specs.declared.element.ElementRef.{ElementRef}
use Rattle.decl_tree.specs.declared.compilation.UnitText.{UnitText}
use Rattle.decl_elements.specs.Nodes.{root}
use Rattle.decl_grammar.specs.declared.written.Lines.{Lines}
use Rattle.unit_locations.specs.Lines.{line_down}
use Rattle.element_table.specs.declared.part.Part.{Part}
use Rattle.element_table.specs.UnitNames.{unit_name}
use Rattle.element_table.specs.TypeTable.{TypeTable, Against, empty_table, has_unit, unit_of, entered, outcome_of}
use Rattle.unit_locations.specs.declared.location.UnitLocation.{UnitLocation}
use Rattle.unit_locations.specs.declared.located.Location as code

-- by the names of units
abbrev pub Locations : Type 0
Locations = FinMap (slice_cmp nat_cmp) UnitLocation

pub record LocatedTable : Type 0 where
  pub table : TypeTable
  pub locations : Locations

abbrev pub located : TypeTable → Locations → LocatedTable
located table locations = record { table = table; locations = locations }

abbrev pub nothing_located : LocatedTable
nothing_located = located empty_table fin.empty

-- the invariant: the units of the table are those that have a location
unfoldable pub IsLocated : LocatedTable → Type 0
IsLocated t = (name : List ℕ) → fin.contains_key t.locations name ≡ has_unit t.table name

-- ---- looking up

-- the path of the file that gave the unit of this name: of a source or a stub its path in the tree, of a created source that below the output
abbrev pub path_of : LocatedTable → List ℕ → Option (List ℕ)
path_of t name = option_map (λ (at : UnitLocation). at.path) (fin.get t.locations name)

-- where an element is declared: the path of its file, and the line of its name
pub record Location : Type 0 where
  pub path : List ℕ
  pub line : ℕ

abbrev pub location_at : UnitLocation → ℕ → Location
location_at at line = record { path = at.path; line = line }

-- of what stands at a path of this unit. The line is that of the element's name, of what the language adds to a type that of the type's name, and of a package that of its
-- `package`; there is none where the path leads to no element
abbrev pub location_in : UnitText → List ℕ → UnitLocation → Option Location
location_in unit path at = option_map (location_at at) (line_down path (root unit) at.lines)

-- none where the table has no such unit, as of a package without a unit `package-info`
abbrev pub location_of : LocatedTable → ElementRef → Option Location
location_of t element = option_and_then (λ unit. option_and_then (location_in unit element.path) (fin.get t.locations element.unit)) (unit_of t.table element.unit)

-- what the code gives
abbrev pub shown_location : code.Location → Location
shown_location at = record { path = at.path.now; line = at.line }

-- ---- entering

-- one unit more, which is located here
abbrev pub with_unit : UnitText → UnitLocation → Locations → Locations
with_unit unit at locations = fin.insert locations (unit_name unit) at

-- the table with a unit more in this part, which is located here
abbrev pub entered_at : Part → UnitText → UnitLocation → LocatedTable → LocatedTable
entered_at part unit at t = located (entered part unit t.table) (with_unit unit at t.locations)

abbrev pub located_by : Result TypeTable Against → UnitText → UnitLocation → LocatedTable → Result LocatedTable Against
located_by (Ok table) unit at t = Ok (located table (with_unit unit at t.locations))
located_by (Err why) unit at t = Err why

-- what entering a unit comes to: what it comes to for the table, and its location beside it
abbrev pub enter_located : Part → UnitText → UnitLocation → LocatedTable → Result LocatedTable Against
enter_located part unit at t = located_by (outcome_of part unit t.table) unit at t

-- ---- a law

-- what is declared somewhere stays declared there when a unit is entered whose name was not there, so that an element has one line in all rounds of a run
abbrev pub LocationsStay : Type 0
LocationsStay =
    (part : Part) (unit : UnitText) (at : UnitLocation) (t : LocatedTable) → has_unit t.table (unit_name unit) ≡ false
    → (element : ElementRef) (there : Location) → location_of t element ≡ Some there → location_of (entered_at part unit at t) element ≡ Some there
