-- A simple name means what the first of its places finds that finds anything.
use Rattle.std.proofs.Common.{◌≡◌, ℕ, List, [], ◌∷◌, ◌++◌, refl, sym, ap, ◌∙◌}
use Rattle.std.specs.List.{flat_map}
use Rattle.decl_tree.specs.declared.compilation.UnitText.{UnitText}
use Rattle.element_table.specs.declared.part.Part.{Part}
use Rattle.decl_elements.specs.Walk.{Place}
use Rattle.name_resolve.specs.Ways.{around}
use Rattle.name_resolve.specs.Finds.{Finds, Nothing, One, Several, first_of, parameters_at}
use Rattle.name_resolve.specs.Meaning.{Tops, Members, Scope, Within, Header, scope_at, in_element, in_elements, in_header, in_scope, in_unit, simple}
use Rattle.name_resolve.specs.Places.{element_places, header_places, scope_places, unit_places, places}
use Rattle.name_resolve.proofs.FirstPlaces.{first_alone}

pub first_of-append : (xs ys : List Finds) → first_of (xs ++ ys) ≡ first_of (first_of xs ∷ first_of ys ∷ [])
first_of-append [] ys = sym (first_alone (first_of ys))
first_of-append (Nothing ∷ xs) ys = first_of-append xs ys
first_of-append (One f ∷ xs) ys = refl
first_of-append (Several ∷ xs) ys = refl

module _ (m : Members) (part : Part) (u : UnitText) (name : List ℕ) where
  of_elements : (above : List Place) → first_of (flat_map (element_places m part u name) above) ≡ in_elements m part u name above
  unfolding in_element
  of_elements [] = refl
  of_elements (at ∷ above) =
      first_of-append (element_places m part u name at) (flat_map (element_places m part u name) above)
      ∙ ap (λ x. first_of (in_element m part u name at ∷ x ∷ [])) (of_elements above)

  of_header : (above : List Place) → first_of (header_places m part u name above) ≡ in_header m part u name above
  of_header [] = refl
  of_header (at ∷ above) =
      first_of-append (parameters_at part u name at ∷ []) (flat_map (element_places m part u name) above)
      ∙ ap (λ x. first_of (x ∷ first_of (flat_map (element_places m part u name) above) ∷ [])) (first_alone (parameters_at part u name at))
      ∙ ap (λ x. first_of (parameters_at part u name at ∷ x ∷ [])) (of_elements above)

of_scope : (m : Members) (name : List ℕ) (scope : Scope) → first_of (scope_places m name scope) ≡ in_scope m name scope
of_scope m name (Within at) = of_elements m at.part at.unit name (around at.unit at.path)
of_scope m name (Header at) = of_header m at.part at.unit name (around at.unit at.path)

pub simple-places : (tops : Tops) (m : Members) (scope : Scope) (name : List ℕ) → simple tops m scope name ≡ first_of (places tops m scope name)
unfolding simple in_unit
simple-places tops m scope name =
    let units = unit_places tops m (scope_at scope).part (scope_at scope).unit name in
    sym (first_of-append (scope_places m name scope) units ∙ ap (λ x. first_of (x ∷ first_of units ∷ [])) (of_scope m name scope))
