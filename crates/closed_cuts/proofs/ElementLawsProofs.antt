-- Which elements lie in a cut, by a look-up of their unit, and what the laws say of one of them.
use Rattle.std.proofs.Common.{◌≡◌, true, ◌||◌, Option, None, Some, is_some, Bor, refl, sym, ap, ◌∙◌}
use Rattle.std.specs.Option.{option_or, option_copied}
use Rattle.std.specs.FinMap as fin
use Rattle.apt_base.specs.declared.element.ElementRef.{ElementRef}
use Rattle.decl_tree.specs.declared.compilation.UnitText.{UnitText}
use Rattle.element_table.specs.TypeTable.{TypeTable, unit_of, has_unit}
use Rattle.reach_map.specs.ClosedCuts.{NameSet, cut}
use Rattle.closed_cuts.specs.CutElements.{LiesIn}
use Rattle.closed_cuts.specs.ElementLaws.{StaysInCut}
use Rattle.closed_cuts.specs.FieldLaws.{AllFieldsStay}
use Rattle.closed_cuts.specs.NameLaws.{AllNamesStay}
use Rattle.closed_cuts.specs.PresenceLaws.{AllPresenceStays}
use Rattle.closed_cuts.specs.TypeLaws.{AllTypesStay}
use Rattle.closed_cuts.specs.ValueLaws.{AllValuesStay}

some_copied : (found : Option (Bor UnitText)) → is_some found ≡ is_some (option_copied found)
some_copied None = refl
some_copied (Some unit) = refl

some_either : (source stub : Option UnitText) → is_some (option_or source stub) ≡ (is_some source || is_some stub)
some_either None stub = refl
some_either (Some unit) stub = refl

module _ (table : TypeTable) (names : NameSet) (at : ElementRef) where
  has_found : (found : Option (Bor UnitText)) → option_copied found ≡ unit_of (cut table names) at.unit → is_some found ≡ has_unit (cut table names) at.unit
  has_found found is = some_copied found ∙ ap is_some is ∙ some_either (fin.get (cut table names).source at.unit) (fin.get (cut table names).stub at.unit)

  pub lies : (found : Option (Bor UnitText)) → option_copied found ≡ unit_of (cut table names) at.unit → is_some found ≡ true → LiesIn table names at
  lies found is some = sym (has_found found is) ∙ some

  pub there : (found : Option (Bor UnitText)) → option_copied found ≡ unit_of (cut table names) at.unit → LiesIn table names at → is_some found ≡ true
  there found is has = has_found found is ∙ has

  pub staying : AllNamesStay → AllFieldsStay → AllTypesStay → AllPresenceStays → AllValuesStay → LiesIn table names at → StaysInCut table names at
  staying names_stay fields_stay types_stay presence_stays values_stay has rooted = record {
    names = names_stay table names rooted at has;
    fields = fields_stay table names rooted at has;
    element = (types_stay table names rooted).elements at has;
    presence = (presence_stays table names rooted).elements at has;
    values = values_stay table names rooted at has;
  }
