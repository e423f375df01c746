-- How a table in memory is seen: each part by the bytes of its names, and the table as the pair of its parts.
use Rattle.std.specs.Prelude.{String, refl}
use Rattle.std.specs.BTreeMap.{BTreeMap}
use Rattle.std.specs.Coded.{Coded, code_by, coded×, coded_list, coded_ℕ}
use Rattle.std.specs.FinMap as fin
use Rattle.std.specs.declared.alloc.Global.{Global}
use Rattle.decl_tree.specs.contracts.compilation.Unit as unit
use Rattle.decl_tree.specs.declared.compilation.UnitText.{UnitText}
use Rattle.name_index.specs.ShownMaps.{shown_map}
use Rattle.element_table.specs.TypeTable.{Units, TypeTable, table_of}

abbrev pub units_of : BTreeMap (String Global) UnitText → Units
units_of m = shown_map m

abbrev pub units_code : Coded Units
units_code = fin.code (coded_list coded_ℕ) unit.the_row.coded

abbrev pub table_code : Coded TypeTable
table_code = code_by (Units × Units) (coded× units_code units_code) (λ t. (t.source, t.stub)) (λ p. table_of p.0 p.1) (λ _. refl)
