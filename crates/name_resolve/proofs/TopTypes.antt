-- Top-level types by the part and the unit of a name.
use Rattle.std.proofs.Common.{◌≡◌, ℕ, true, false, List, Option, None, Some, is_some, if◌then◌else◌, refl, sym, ap}
use Rattle.std.specs.Option.{option_or}
use Rattle.std.specs.FinMap as fin
use Rattle.decl_tree.specs.declared.compilation.UnitText.{UnitText}
use Rattle.element_table.specs.declared.part.Part.{Part}
use Rattle.element_table.specs.declared.part.Part.TheVariants.{Source, Stub}
use Rattle.element_table.specs.TypeTable.{TypeTable, IsTable, unit_of, part_of}
use Rattle.name_resolve.specs.Finds.{Nothing}
use Rattle.name_resolve.specs.Meaning.{top_of, top_in, met_from, tops_of}

-- by the units of a name in both parts
abbrev pub part_by : Option UnitText → Option UnitText → Option Part
part_by source stub = if is_some source then Some Source else if is_some stub then Some Stub else None

no_stub : (stub : Option UnitText) → is_some stub ≡ false → top_in None stub ≡ Nothing
no_stub None e = refl
no_stub (Some u) e = absurd (cc)

met_source : (source stub : Option UnitText) (at : Part) (u : UnitText) → part_by source stub ≡ Some at → option_or source stub ≡ Some u → top_in source stub ≡ top_of at u u.body
met_source (Some s) stub at u p e =
    let there : at ≡ Source = cc in
    let same : u ≡ s = cc in
    rw (there, same) refl
met_source None (Some t) at u p e =
    let there : at ≡ Stub = cc in
    let same : u ≡ t = cc in
    rw (there, same) refl
met_source None None at u p e = absurd (cc)

met_stub : (source stub : Option UnitText) → (is_some source ≡ true → is_some stub ≡ false) → (at : Part) (u : UnitText) → part_by source stub ≡ Some at → option_or source stub ≡ Some u
    → top_in None stub ≡ met_from Stub at u
met_stub (Some s) stub apart at u p e =
    let there : at ≡ Source = cc in
    rw there (no_stub stub (apart refl))
met_stub None (Some t) apart at u p e =
    let there : at ≡ Stub = cc in
    let same : u ≡ t = cc in
    rw (there, same) refl
met_stub None None apart at u p e = absurd (cc)

met_none : (source stub : Option UnitText) → part_by source stub ≡ None → top_in source stub ≡ Nothing
met_none (Some s) stub e = absurd (cc)
met_none None (Some t) e = absurd (cc)
met_none None None e = refl

module _ (table : TypeTable) (name : List ℕ) where
  apart : IsTable table → is_some (fin.get table.source name) ≡ true → is_some (fin.get table.stub name) ≡ false
  apart t e = t.apart name e

  pub meets : IsTable table → (part at : Part) (u : UnitText) → part_of table name ≡ Some at → unit_of table name ≡ Some u → met_from part at u ≡ tops_of table part name
  unfolding tops_of
  meets t Source at u p e = sym (met_source (fin.get table.source name) (fin.get table.stub name) at u p e)
  meets t Stub at u p e = sym (met_stub (fin.get table.source name) (fin.get table.stub name) (apart t) at u p e)

  no_stub_there : (source stub : Option UnitText) → part_by source stub ≡ None → stub ≡ None
  no_stub_there (Some s) stub e = absurd (cc)
  no_stub_there None (Some t) e = absurd (cc)
  no_stub_there None None e = refl

  pub meets_none : (part : Part) → part_of table name ≡ None → Nothing ≡ tops_of table part name
  unfolding tops_of
  meets_none Source p = sym (met_none (fin.get table.source name) (fin.get table.stub name) p)
  meets_none Stub p = sym (ap (top_in None) (no_stub_there (fin.get table.source name) (fin.get table.stub name) p))

  lost : (source stub : Option UnitText) (at : Part) → part_by source stub ≡ Some at → option_or source stub ≡ None → ⊥
  lost (Some s) stub at p e = absurd (cc)
  lost None (Some t) at p e = absurd (cc)
  lost None None at p e = absurd (cc)

  -- a name that is in a part has a unit
  pub meets_lost : (part at : Part) → part_of table name ≡ Some at → unit_of table name ≡ None → Nothing ≡ tops_of table part name
  meets_lost part at p e = absurd (lost (fin.get table.source name) (fin.get table.stub name) at p e)
