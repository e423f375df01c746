-- What the visits of all places of a unit come to.
use Rattle.std.proofs.Common.{◌≡◌, ℕ, List, [], ◌∷◌, ◌++◌, map, filter, Some, refl, sym, ap, ◌∙◌, append-nil, append_assoc}
use Rattle.std.specs.List.{FoldsTo, flat_map}
use Rattle.std.specs.Option.{option_map_or}
use Rattle.std.proofs.lemmas.List.Elements.{filter-append}
use Rattle.apt_base.specs.Names.{NameSet, with_name, with_names}
use Rattle.decl_tree.specs.declared.compilation.UnitText.{UnitText}
use Rattle.decl_elements.specs.Walk.{Place, places}
use Rattle.element_table.specs.TypeTable.{TypeTable, unit_of}
use Rattle.round_env.specs.declared.presence.PresentNames.{PresentNames}
use Rattle.round_env.specs.declared.presence.AnnotatedElements.{AnnotatedElements}
use Rattle.round_env.specs.Presence.{names_on, carries, element_at, elements_in, names_in_unit, annotated_in_unit}
use Rattle.round_env.specs.Visits.{AddsNames, AddsElement}

pub with_names-append : (names : NameSet) (some more : List (List ℕ)) → with_names names (some ++ more) ≡ with_names (with_names names some) more
with_names-append names [] more = refl
with_names-append names (name ∷ some) more = with_names-append (with_name names name) some more

-- ---- names

pub record AddsAllNames (old : PresentNames) (places : List Place) (new : PresentNames) : Type 0 where
  pub table : new.presence ≡ old.presence
  pub names : new.names ≡ with_names old.names (flat_map (names_on old.presence) (map (element_at old.root) places))

pub all_names : (old new : PresentNames) (places : List Place) → FoldsTo AddsNames old places new → AddsAllNames old places new
all_names old new [] folds =
    let same : old ≡ new = folds in
    record { table = ap (λ (p : PresentNames). p.presence) (sym same); names = ap (λ (p : PresentNames). p.names) (sym same) }
all_names old new (at ∷ places) folds =
    let next : PresentNames = folds.0 in
    let step : AddsNames old at next = folds.1 in
    let rest = all_names next new places folds.2 in
    record {
      table = rest.table ∙ step.table;
      names =
          rest.names ∙ (λ i. with_names (step.names i) (flat_map (names_on (step.table i)) (map (element_at (step.root i)) places)))
          ∙ sym (with_names-append old.names (names_on old.presence (element_at old.root at)) (flat_map (names_on old.presence) (map (element_at old.root) places)));
    }

-- ---- elements

pub record AddsAllElements (old : AnnotatedElements) (places : List Place) (new : AnnotatedElements) : Type 0 where
  pub table : new.presence ≡ old.presence
  pub name : new.name.now ≡ old.name.now
  pub elements : new.elements ≡ old.elements ++ filter (carries old.presence old.name.now) (map (element_at old.root) places)

pub all_elements : (old new : AnnotatedElements) (places : List Place) → FoldsTo AddsElement old places new → AddsAllElements old places new
all_elements old new [] folds =
    let same : old ≡ new = folds in
    record {
      table = ap (λ (p : AnnotatedElements). p.presence) (sym same);
      name = ap (λ (p : AnnotatedElements). p.name.now) (sym same);
      elements = ap (λ (p : AnnotatedElements). p.elements) (sym same) ∙ sym (append-nil old.elements);
    }
all_elements old new (at ∷ places) folds =
    let next : AnnotatedElements = folds.0 in
    let step : AddsElement old at next = folds.1 in
    let rest = all_elements next new places folds.2 in
    let passes = carries old.presence old.name.now in
    let one = element_at old.root at in
    let others = map (element_at old.root) places in
    record {
      table = rest.table ∙ step.table;
      name = rest.name ∙ step.name;
      elements =
          rest.elements ∙ (λ i. step.elements i ++ filter (carries (step.table i) (step.name i)) (map (element_at (step.root i)) places))
          ∙ append_assoc old.elements (filter passes (one ∷ [])) (filter passes others)
          ∙ ap (λ list. old.elements ++ list) (sym (filter-append passes (one ∷ []) others));
    }

-- ---- of a whole unit

elements-are : (table : TypeTable) (root : List ℕ) (u : UnitText) → unit_of table root ≡ Some u → map (element_at root) (places u) ≡ elements_in table root
unfolding elements_in
elements-are table root u held = ap (λ o. option_map_or (λ v. map (element_at root) (places v)) o []) (sym held)

pub unit_names : (old new : PresentNames) (u : UnitText) → unit_of old.presence old.root ≡ Some u → FoldsTo AddsNames old (places u) new
    → new.names ≡ with_names old.names (names_in_unit old.presence old.root)
unit_names old new u held folds =
    (all_names old new (places u) folds).names
    ∙ ap (λ ats. with_names old.names (flat_map (names_on old.presence) ats)) (elements-are old.presence old.root u held)

pub unit_elements : (old new : AnnotatedElements) (u : UnitText) → unit_of old.presence old.root ≡ Some u → FoldsTo AddsElement old (places u) new
    → new.elements ≡ old.elements ++ annotated_in_unit old.presence old.name.now old.root
unit_elements old new u held folds =
    (all_elements old new (places u) folds).elements
    ∙ ap (λ ats. old.elements ++ filter (carries old.presence old.name.now) ats) (elements-are old.presence old.root u held)
