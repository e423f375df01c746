-- The source unit of a name, by what stands under the name and in which part.
use Rattle.std.proofs.Common.{◌≡◌, ℕ, List, Option, None, Some, refl}
use Rattle.std.specs.Option.{option_or}
use Rattle.std.specs.FinMap as fin
use Rattle.decl_tree.specs.declared.compilation.UnitText.{UnitText}
use Rattle.element_table.specs.declared.part.Part.TheVariants.{Source, Stub}
use Rattle.element_table.specs.TypeTable.{TypeTable, unit_of, part_of}
use Rattle.name_resolve.proofs.TopTypes.{part_by}

source_by : (source stub : Option UnitText) → part_by source stub ≡ Some Source → option_or source stub ≡ source
source_by (Some s) stub e = refl
source_by None (Some t) e = absurd (cc)
source_by None None e = absurd (cc)

none_by : (source stub : Option UnitText) → part_by source stub ≡ Some Stub → None ≡ source
none_by (Some s) stub e = absurd (cc)
none_by None stub e = refl

absent_by : (source stub : Option UnitText) → part_by source stub ≡ None → None ≡ source
absent_by (Some s) stub e = absurd (cc)
absent_by None stub e = refl

module _ (table : TypeTable) (name : List ℕ) where
  pub in_sources : part_of table name ≡ Some Source → unit_of table name ≡ fin.get table.source name
  in_sources e = source_by (fin.get table.source name) (fin.get table.stub name) e

  pub in_stubs : part_of table name ≡ Some Stub → None ≡ fin.get table.source name
  in_stubs e = none_by (fin.get table.source name) (fin.get table.stub name) e

  pub nowhere : part_of table name ≡ None → None ≡ fin.get table.source name
  nowhere e = absent_by (fin.get table.source name) (fin.get table.stub name) e
