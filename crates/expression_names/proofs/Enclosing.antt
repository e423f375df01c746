-- The fields of what encloses an element, from the inside out: by its path, which loses its last step each time.
use Rattle.std.proofs.Common.{◌≡◌, ℕ, true, false, List, [], ◌∷◌, ◌++◌, Option, None, Some, is_some, refl, sym, ap, subst, ◌∙◌}
use Rattle.decl_elements.specs.Nodes.{Node}
use Rattle.decl_elements.specs.Walk.{Place, place_of}
use Rattle.element_table.specs.TypeTable.{TypeTable}
use Rattle.name_resolve.specs.Ways.{around, node_at}
use Rattle.name_resolve.specs.Finds.{Find, Nothing, first_of}
use Rattle.name_resolve.specs.Parts.{at_path}
use Rattle.name_resolve.proofs.Enclosing.{around-first, around-none, around-more, around-nothing, front-there}
use Rattle.name_resolve.proofs.FirstPlaces.{first_found, second_of}
use Rattle.expression_names.specs.Fields.{fields, fields_around, enclosing_fields}

some_is : {A : Type 0} (o : Option A) → is_some o ≡ true → (x : A) × (o ≡ Some x)
some_is None e = absurd (cc)
some_is (Some x) e = (x, refl)

none_is : {A : Type 0} (o : Option A) → false ≡ is_some o → o ≡ None
none_is None e = refl
none_is (Some x) e = absurd (cc)

module _ (table : TypeTable) (f : Find) (name : List ℕ) where
  first_place : (node : Node) (rest : List Place) → around f.unit f.path ≡ place_of f.path node ∷ rest
      → enclosing_fields table f name ≡ first_of (fields table f name ∷ fields_around table f.part f.unit name rest ∷ [])
  unfolding enclosing_fields
  first_place node rest is = ap (fields_around table f.part f.unit name) is

  -- nothing stands there
  pub nothing_there : false ≡ is_some (node_at f.unit f.path) → Nothing ≡ enclosing_fields table f name
  unfolding enclosing_fields
  nothing_there e = ap (fields_around table f.part f.unit name) (sym (around-nothing f.unit f.path (none_is (node_at f.unit f.path) e)))

  module _ (there : is_some (node_at f.unit f.path) ≡ true) where
    -- they are here
    pub found_here : (fields table f name ≡ Nothing → ⊥) → fields table f name ≡ enclosing_fields table f name
    found_here some =
        let node = some_is (node_at f.unit f.path) there in
        let first = around-first f.unit f.path node.0 node.1 in
        sym (first_place node.0 first.0 first.1 ∙ first_found _ _ some)

    alone : f.path ≡ [] → (node : Node) → node_at f.unit f.path ≡ Some node → around f.unit f.path ≡ place_of f.path node ∷ []
    alone e node = subst (λ path. node_at f.unit path ≡ Some node → around f.unit path ≡ place_of path node ∷ []) (sym e) (around-none f.unit node)

    -- nothing is around
    pub none_around : f.path ≡ [] → fields table f name ≡ Nothing → Nothing ≡ enclosing_fields table f name
    none_around e none =
        let node = some_is (node_at f.unit f.path) there in
        sym (first_place node.0 [] (alone e node.0 node.1) ∙ second_of _ _ none)

    module _ (front : List ℕ) (step : ℕ) (split : f.path ≡ front ++ step ∷ []) where
      further : (node : Node) → node_at f.unit f.path ≡ Some node → around f.unit f.path ≡ place_of f.path node ∷ around f.unit front
      further node =
          subst (λ path. node_at f.unit path ≡ Some node → around f.unit path ≡ place_of path node ∷ around f.unit front) (sym split) (around-more f.unit front step node)

      pub there_outside : is_some (node_at f.unit front) ≡ true
      there_outside =
          let node = some_is (node_at f.unit f.path) there in
          front-there f.unit front step node.0 (ap (node_at f.unit) (sym split) ∙ node.1)

      outside : fields_around table f.part f.unit name (around f.unit front) ≡ enclosing_fields table (at_path f front) name
      unfolding enclosing_fields
      outside = refl

      -- they are further out
      pub further_out : fields table f name ≡ Nothing → enclosing_fields table f name ≡ enclosing_fields table (at_path f front) name
      further_out none =
          let node = some_is (node_at f.unit f.path) there in
          first_place node.0 (around f.unit front) (further node.0 node.1) ∙ second_of _ _ none ∙ outside
