-- Names as the last one and those in front of it, imports by their kind, and the places of a simple name.
use Rattle.std.proofs.Common.{◌≡◌, ℕ, ◌==◌, true, false, List, [], ◌∷◌, ◌++◌, length, map, refl, sym, ap, ◌∙◌, arith}
use Rattle.std.proofs.lemmas.Bool.{eqb-true}
use Rattle.std.proofs.lemmas.List.{nil_from_length}
use Rattle.apt_base.specs.Identifiers.{parts}
use Rattle.decl_tree.specs.declared.compilation.Import.{Import}
use Rattle.decl_tree.specs.declared.compilation.ImportKind.{ImportKind}
use Rattle.element_table.specs.declared.part.Part.{Part}
use Rattle.element_table.specs.TypeTable.{TypeTable}
use Rattle.name_resolve.specs.Finds.{Find, Finds, Nothing, together}
use Rattle.name_resolve.specs.Meaning.{Within, qualifier_meaning}
use Rattle.name_resolve.specs.Parts.{lent}
use Rattle.name_resolve.proofs.FirstPlaces.{first_found, first_skipped, third_of}
use Rattle.name_resolve.proofs.LookSteps.{but_last-is}
use Rattle.name_resolve.proofs.NameParts.{texts_of-more}
use Rattle.expression_names.specs.Fields.{fields_of, enclosing_fields, field_by_single, field_by_on_demand, field_by_single_import, field_by_import_on_demand, simple_field, last_of, field_meaning}
use denote.Ref.{Bor}

module _ (table : TypeTable) (part : Part) (name : List ℕ) (i : Import) (kind : ImportKind) (is : i.kind ≡ kind) where
  pub single_of : field_by_single table part name (parts i.name) kind ≡ field_by_single_import table part name i
  unfolding field_by_single_import
  single_of = ap (field_by_single table part name (parts i.name)) (sym is)

  pub on_demand_of : field_by_on_demand table part name (parts i.name) kind ≡ field_by_import_on_demand table part name i
  unfolding field_by_import_on_demand
  on_demand_of = ap (field_by_on_demand table part name (parts i.name)) (sym is)

-- ---- the places of a simple name

module _ (table : TypeTable) (at : Find) (name : List ℕ) where
  abbrev single : Finds
  single = together (map (field_by_single_import table at.part name) at.unit.imports)

  abbrev on_demand : Finds
  on_demand = together (map (field_by_import_on_demand table at.part name) at.unit.imports)

  pub simple_near : (enclosing_fields table at name ≡ Nothing → ⊥) → enclosing_fields table at name ≡ simple_field table at name
  unfolding simple_field
  simple_near some = sym (first_found _ _ some)

  pub simple_single : enclosing_fields table at name ≡ Nothing → (single ≡ Nothing → ⊥) → single ≡ simple_field table at name
  unfolding simple_field
  simple_single none some = sym (first_skipped _ _ none ∙ first_found _ _ some)

  pub simple_on_demand : enclosing_fields table at name ≡ Nothing → single ≡ Nothing → on_demand ≡ simple_field table at name
  unfolding simple_field
  simple_on_demand none no_single = sym (third_of _ _ _ none no_single)

-- ---- the last name

last-is : (front : List (List ℕ)) (last : List ℕ) → last_of (front ++ last ∷ []) ≡ last
last-is [] last = refl
last-is (first ∷ []) last = refl
last-is (first ∷ next ∷ more) last = last-is (next ∷ more) last

qualified : (table : TypeTable) (at : Find) (front : List (List ℕ)) (last : List ℕ) → (front ≡ [] → ⊥)
    → fields_of table (qualifier_meaning table (Within at) front) last ≡ field_meaning table at (front ++ last ∷ [])
unfolding field_meaning
qualified table at [] last some = absurd (some refl)
qualified table at (name ∷ []) last some = refl
qualified table at (name ∷ next ∷ more) last some =
    let names = name ∷ next ∷ more in
    sym (λ i. fields_of table (qualifier_meaning table (Within at) (but_last-is last names i)) (last-is (next ∷ more) last i))

alone : (table : TypeTable) (at : Find) (last : List ℕ) → simple_field table at last ≡ field_meaning table at (last ∷ [])
unfolding field_meaning
alone table at last = refl

none : (table : TypeTable) (at : Find) → Nothing ≡ field_meaning table at []
unfolding field_meaning
none table at = refl

module _ (table : TypeTable) (at : Find) (names front : List (Bor (List ℕ))) (last : Bor (List ℕ)) (split : names ≡ front ++ last ∷ []) where
  pub meaning_alone : true ≡ (length front == 0) → simple_field table at last.now ≡ field_meaning table at (lent names)
  meaning_alone e =
      let empty = nil_from_length front (eqb-true (length front) 0 (sym e)) in
      alone table at last.now ∙ ap (λ ns. field_meaning table at (lent ns)) (sym (split ∙ ap (λ (fs : List (Bor (List ℕ))). fs ++ last ∷ []) empty))

  not_empty : (fs : List (Bor (List ℕ))) → false ≡ (length fs == 0) → lent fs ≡ [] → ⊥
  not_empty [] e is = absurd (cc)
  not_empty (x ∷ xs) e is = absurd (cc)

  pub meaning_qualified : false ≡ (length front == 0) → fields_of table (qualifier_meaning table (Within at) (lent front)) last.now ≡ field_meaning table at (lent names)
  meaning_qualified e =
      qualified table at (lent front) last.now (not_empty front e)
      ∙ ap (field_meaning table at) (sym (ap lent split ∙ texts_of-more front last))

pub meaning_none : (table : TypeTable) (at : Find) (names : List (Bor (List ℕ))) → length names ≡ 0 → Nothing ≡ field_meaning table at (lent names)
meaning_none table at names e = none table at ∙ ap (λ ns. field_meaning table at (lent ns)) (sym (nil_from_length names e))
