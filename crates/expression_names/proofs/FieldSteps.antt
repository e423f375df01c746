-- The fields of a type, level by level, and where there are none.
use Rattle.std.proofs.Common.{◌≡◌, ◌<◌, ◌-◌, ℕ, zero, suc, List, [], ◌∷◌, map, filter_map, None, Some, refl, sym, ap, ◌∙◌, arith}
use Rattle.apt_base.specs.declared.element.ElementRef.{ElementRef}
use Rattle.decl_tree.specs.declared.compilation.UnitText.{UnitText}
use Rattle.decl_elements.specs.Nodes.{Node, children, down, root}
use Rattle.decl_elements.specs.Walk.{Place, place_of}
use Rattle.element_table.specs.declared.part.Part.{Part}
use Rattle.element_table.specs.TypeTable.{TypeTable, unit_of}
use Rattle.type_mirror.specs.declared.mirror.Mirror.{Mirror}
use Rattle.type_mirror.specs.declared.mirror.BaseMirror.TheVariants as base
use Rattle.type_mirror.specs.Parts.{plain}
use Rattle.type_layers.specs.Layers.{Layer}
use Rattle.type_layers.proofs.BaseLayers.{layer-Nothing}
use Rattle.name_resolve.specs.Ways.{node_at}
use Rattle.name_resolve.specs.Finds.{Find, Nothing, together, first_of, children_where}
use Rattle.name_resolve.specs.Mirrors.{superclass, interfaces}
use Rattle.name_resolve.specs.Placed.{bare_unit}
use Rattle.name_resolve.proofs.ChildrenLeft.{from_child}
use Rattle.name_resolve.proofs.FirstPlaces.{first_found, second_of}
use Rattle.type_resolve.specs.Scopes.{find_bare, find_from, find_in, package_at}
use Rattle.type_elements.specs.MemberElements.{element_in, class_elements}
use Rattle.expression_names.specs.Fields.{is_field_named, fields_in, declared_fields, supertypes, fields_within}
use Rattle.expression_names.specs.Remembered.{HasNoFields}

-- ---- what a type declares

pub from_first_field : (part : Part) (u : UnitText) (name : List ℕ) (at : Place)
    → from_child (is_field_named name) part u at Nothing 0 ≡ children_where (is_field_named name) part u at
unfolding from_child
from_first_field part u name at = refl

module _ (f : Find) (name path : List ℕ) (same : path ≡ f.path) where
  pub declared_none : None ≡ down path (root f.unit) → Nothing ≡ declared_fields f name
  unfolding declared_fields node_at
  declared_none none = ap (fields_in f name) (none ∙ ap (λ p. down p (root f.unit)) same)

  pub declared_some : (node : Node) → Some node ≡ down path (root f.unit)
      → children_where (is_field_named name) f.part f.unit (place_of f.path node) ≡ declared_fields f name
  unfolding declared_fields node_at
  declared_some node there = ap (fields_in f name) (there ∙ ap (λ p. down p (root f.unit)) same)

-- ---- by levels

module _ (table : TypeTable) (f : Find) (name : List ℕ) where
  pub within-found : (n : ℕ) → (declared_fields f name ≡ Nothing → ⊥) → declared_fields f name ≡ fields_within table n f name
  unfolding fields_within
  within-found zero some = refl
  within-found (suc n) some = sym (first_found _ _ some)

  pub within-zero : (n : ℕ) → n ≡ 0 → declared_fields f name ≡ fields_within table n f name
  unfolding fields_within
  within-zero zero e = refl
  within-zero (suc n) e = absurd (omega arith)

  more : (n : ℕ) → declared_fields f name ≡ Nothing
      → together (map (λ at. fields_within table n (find_in table at) name) (supertypes table f)) ≡ fields_within table (suc n) f name
  unfolding fields_within
  more n none = sym (second_of _ _ none)

  pub within-more : (n : ℕ) → 0 < n → declared_fields f name ≡ Nothing
      → together (map (λ at. fields_within table (n - 1) (find_in table at) name) (supertypes table f)) ≡ fields_within table n f name
  within-more n some none = let same : suc (n - 1) ≡ n = omega arith in more (n - 1) none ∙ ap (λ k. fields_within table k f name) same

-- ---- in a bare unit

module _ (table : TypeTable) where
  abbrev bare : Part → List ℕ → List ℕ → Find
  bare part «package» path = record { part = part; unit = bare_unit «package»; path = path }

  declared-bare : (part : Part) («package» path name : List ℕ) → declared_fields (bare part «package» path) name ≡ Nothing
  unfolding declared_fields node_at root children
  declared-bare part «package» [] name = refl
  declared-bare part «package» (step ∷ path) name = refl

  no-supers : class_elements (plain base.Nothing ∷ []) ≡ []
  no-supers = ap (λ (l : Layer Mirror). filter_map (λ (m : Mirror). element_in l) (plain base.Nothing ∷ [])) layer-Nothing

  supers-bare : (part : Part) («package» path : List ℕ) → supertypes table (bare part «package» path) ≡ []
  unfolding superclass interfaces node_at root children
  supers-bare part «package» [] = no-supers
  supers-bare part «package» (step ∷ path) = no-supers

  within-bare : (n : ℕ) (part : Part) («package» path name : List ℕ)
      → fields_within table n (bare part «package» path) name ≡ Nothing
  unfolding fields_within
  within-bare zero part «package» path name = declared-bare part «package» path name
  within-bare (suc n) part «package» path name =
      ap (λ ats. first_of (declared_fields (bare part «package» path) name
      ∷ together (map (λ at. fields_within table n (find_in table at) name) ats) ∷ [])) (supers-bare part «package» path)
      ∙ second_of _ _ (declared-bare part «package» path name)

  pub find-free : (at : ElementRef) → unit_of table at.unit ≡ None → find_in table at ≡ find_bare table (package_at table at) at.path
  unfolding find_in
  find-free at e = ap (λ o. find_from table o at) e

  pub no-fields : (at : ElementRef) → unit_of table at.unit ≡ None → HasNoFields table at
  no-fields at e = record { none = λ levels name. ap (λ (f : Find). fields_within table levels f name) (find-free at e) ∙ within-bare levels _ _ at.path name }

-- ---- by what each call needs

pub ruleset located = (no-fields)

pub ruleset levels = (within-found, within-zero, within-more)
