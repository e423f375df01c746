-- How a located table in memory is seen: the locations by the bytes of the names, and the whole as the pair of its parts.
use Rattle.std.specs.Prelude.{String, refl}
use Rattle.std.specs.BTreeMap.{BTreeMap}
use Rattle.std.specs.Coded.{Coded, code_by, coded×, coded_list, coded_ℕ}
use Rattle.std.specs.FinMap as fin
use Rattle.std.specs.declared.alloc.Global.{Global}
use Rattle.name_index.specs.ShownMaps.{shown_map}
use Rattle.element_table.specs.Held.{table_code}
use Rattle.element_table.specs.TypeTable.{TypeTable}
use Rattle.unit_locations.specs.contracts.location.UnitLocation as location
use Rattle.unit_locations.specs.declared.location.UnitLocation.{UnitLocation}
use Rattle.unit_locations.specs.LocatedTable.{Locations, LocatedTable, located}

abbrev pub locations_of : BTreeMap (String Global) UnitLocation → Locations
locations_of m = shown_map m

abbrev pub locations_code : Coded Locations
locations_code = fin.code (coded_list coded_ℕ) location.the_row.coded

abbrev pub located_code : Coded LocatedTable
located_code = code_by (TypeTable × Locations) (coded× table_code locations_code) (λ t. (t.table, t.locations)) (λ p. located p.0 p.1) (λ _. refl)
