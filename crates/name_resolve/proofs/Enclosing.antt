-- What encloses an element, from the inside out: by its path, which loses its last step each time.
use Rattle.std.proofs.Common.{◌≡◌, ℕ, true, false, List, [], ◌∷◌, ◌++◌, Option, None, Some, is_some, slice_get, refl, sym, ap, subst, ◌∙◌, Bool, append_assoc, append-nil}
use Rattle.std.specs.Option.{option_and_then, option_map}
use Rattle.decl_tree.specs.declared.compilation.UnitText.{UnitText}
use Rattle.decl_elements.specs.Nodes.{Node, children, down, root}
use Rattle.decl_elements.specs.Walk.{Place, place_of}
use Rattle.name_resolve.specs.Ways.{way, around, node_at}
use Rattle.name_resolve.specs.Finds.{Find, Nothing, first_of, parameters_at, types_at, types_in, declared_types}
use Rattle.name_resolve.specs.Meaning.{Members, in_element, in_elements, in_header, in_scope, scope_of}
use Rattle.name_resolve.specs.Parts.{parameters_in, declared_parameters, element_finds, enclosing_finds, header_finds, at_path}
use Rattle.name_resolve.proofs.FirstPlaces.{first_found, second_of}

way-step : (above : List Place) (at : List ℕ) (node : Node) (step : ℕ) (steps : List ℕ) (child : Node) → slice_get (children node) step ≡ Some child
    → way above at node (step ∷ steps) ≡ way (place_of at node ∷ above) (at ++ step ∷ []) child steps
way-step above at node step steps child c = ap (λ o. elim o as (λ _. List Place) [ None ↦ [] | Some next ↦ way (place_of at node ∷ above) (at ++ step ∷ []) next steps ]) c

-- the first place is the end of the path
way-first : (above : List Place) (at : List ℕ) (node : Node) (steps : List ℕ) (end : Node) → down steps node ≡ Some end
    → (rest : List Place) × (way above at node steps ≡ place_of (at ++ steps) end ∷ rest)
way-first above at node [] end e =
    let same : node ≡ end = cc in
    (above, ap (λ n. place_of at n ∷ above) same ∙ ap (λ path. place_of path end ∷ above) (sym (append-nil at)))
way-first above at node (step ∷ steps) end e = by_child (λ child. way-first (place_of at node ∷ above) (at ++ step ∷ []) child steps end) (slice_get (children node) step) refl e
  where
    by_child : ((child : Node) → down steps child ≡ Some end → (rest : List Place) × (way (place_of at node ∷ above) (at ++ step ∷ []) child steps ≡ place_of ((at ++ step ∷ []) ++ steps) end ∷ rest))
        → (o : Option Node) → slice_get (children node) step ≡ o → option_and_then (λ child. down steps child) o ≡ Some end
        → (rest : List Place) × (way above at node (step ∷ steps) ≡ place_of (at ++ step ∷ steps) end ∷ rest)
    by_child next None c none = absurd (cc)
    by_child next (Some child) c there =
        let more = next child there in
        (more.0, way-step above at node step steps child c ∙ more.1 ∙ ap (λ path. place_of path end ∷ more.0) (append_assoc at (step ∷ []) steps))

-- what stands at the path without its last step, and the way there
record Front (above : List Place) (at : List ℕ) (node : Node) (steps : List ℕ) (step : ℕ) (end : Node) : Type 0 where
  pub there : is_some (down steps node) ≡ true
  pub more : way above at node (steps ++ step ∷ []) ≡ place_of (at ++ (steps ++ step ∷ [])) end ∷ way above at node steps

way-front : (above : List Place) (at : List ℕ) (node : Node) (steps : List ℕ) (step : ℕ) (end : Node) → down (steps ++ step ∷ []) node ≡ Some end → Front above at node steps step end
way-front above at node [] step end e = by_child (slice_get (children node) step) refl e
  where
    by_child : (o : Option Node) → slice_get (children node) step ≡ o → option_and_then (λ child. down [] child) o ≡ Some end → Front above at node [] step end
    by_child None c none = absurd (cc)
    by_child (Some child) c there =
        let same : child ≡ end = cc in
        let first : way above at node (step ∷ []) ≡ place_of (at ++ step ∷ []) child ∷ (place_of at node ∷ above) = way-step above at node step [] child c in
        record { there = refl; more = first ∙ ap (λ n. place_of (at ++ step ∷ []) n ∷ (place_of at node ∷ above)) same }
way-front above at node (first ∷ steps) step end e = by_child (λ child. way-front (place_of at node ∷ above) (at ++ first ∷ []) child steps step end) (slice_get (children node) first) refl e
  where
    by_child : ((child : Node) → down (steps ++ step ∷ []) child ≡ Some end → Front (place_of at node ∷ above) (at ++ first ∷ []) child steps step end)
        → (o : Option Node) → slice_get (children node) first ≡ o → option_and_then (λ child. down (steps ++ step ∷ []) child) o ≡ Some end
        → Front above at node (first ∷ steps) step end
    by_child next None c none = absurd (cc)
    by_child next (Some child) c there =
        let front = next child there in
        record {
          there = ap (λ o. is_some (option_and_then (λ child. down steps child) o)) c ∙ front.there;
          more =
              way-step above at node first (steps ++ step ∷ []) child c ∙ front.more
              ∙ ap (λ path. place_of path end ∷ way (place_of at node ∷ above) (at ++ first ∷ []) child steps) (append_assoc at (first ∷ []) (steps ++ step ∷ []))
              ∙ ap (λ ps. place_of (at ++ (first ∷ (steps ++ step ∷ []))) end ∷ ps) (sym (way-step above at node first steps child c));
        }

way-nothing : (above : List Place) (at : List ℕ) (node : Node) (steps : List ℕ) → down steps node ≡ None → way above at node steps ≡ []
way-nothing above at node [] e = absurd (cc)
way-nothing above at node (step ∷ steps) e = by_child (λ child. way-nothing (place_of at node ∷ above) (at ++ step ∷ []) child steps) (slice_get (children node) step) refl e
  where
    by_child : ((child : Node) → down steps child ≡ None → way (place_of at node ∷ above) (at ++ step ∷ []) child steps ≡ [])
        → (o : Option Node) → slice_get (children node) step ≡ o → option_and_then (λ child. down steps child) o ≡ None → way above at node (step ∷ steps) ≡ []
    by_child next None c none = ap (λ o. elim o as (λ _. List Place) [ None ↦ [] | Some child ↦ way (place_of at node ∷ above) (at ++ step ∷ []) child steps ]) c
    by_child next (Some child) c none = way-step above at node step steps child c ∙ next child none

some_is : {A : Type 0} (o : Option A) → is_some o ≡ true → (x : A) × (o ≡ Some x)
some_is None e = absurd (cc)
some_is (Some x) e = (x, refl)

none_is : {A : Type 0} (o : Option A) → false ≡ is_some o → o ≡ None
none_is None e = refl
none_is (Some x) e = absurd (cc)

is_some-shown : {A B : Type 0} (f : A → B) (o : Option A) → is_some o ≡ is_some (option_map f o)
is_some-shown f None = refl
is_some-shown f (Some x) = refl

-- what stands at a path that is given as a slice
pub there-is : {A : Type 0} (f : A → Node) (o : Option A) (u : UnitText) (at path : List ℕ) → path ≡ at → option_map f o ≡ down path (root u) → is_some o ≡ is_some (node_at u at)
unfolding node_at
there-is f o u at path same e = is_some-shown f o ∙ ap is_some (e ∙ ap (λ p. down p (root u)) same)

module _ (u : UnitText) where
  pub around-first : (path : List ℕ) (node : Node) → node_at u path ≡ Some node → (rest : List Place) × (around u path ≡ place_of path node ∷ rest)
  unfolding around node_at
  around-first path node e = way-first [] [] (root u) path node e

  pub around-none : (node : Node) → node_at u [] ≡ Some node → around u [] ≡ place_of [] node ∷ []
  unfolding around node_at
  around-none node e = let same : root u ≡ node = cc in ap (λ n. place_of [] n ∷ []) same

  pub around-more : (path : List ℕ) (step : ℕ) (node : Node) → node_at u (path ++ step ∷ []) ≡ Some node → around u (path ++ step ∷ []) ≡ place_of (path ++ step ∷ []) node ∷ around u path
  unfolding around node_at
  around-more path step node e = (way-front [] [] (root u) path step node e).more

  pub front-there : (path : List ℕ) (step : ℕ) (node : Node) → node_at u (path ++ step ∷ []) ≡ Some node → is_some (node_at u path) ≡ true
  unfolding node_at
  front-there path step node e = (way-front [] [] (root u) path step node e).there

  pub around-nothing : (path : List ℕ) → node_at u path ≡ None → around u path ≡ []
  unfolding around node_at
  around-nothing path e = way-nothing [] [] (root u) path e

-- of what stands there by the places around it
module _ (m : Members) (f : Find) (name : List ℕ) where
  module _ (node : Node) (there : node_at f.unit f.path ≡ Some node) where
    types-here : types_at f.part f.unit name (place_of f.path node) ≡ declared_types f name
    unfolding declared_types
    types-here = ap (types_in f.part f.unit name f.path) (sym there)

    parameters-here : parameters_at f.part f.unit name (place_of f.path node) ≡ declared_parameters f name
    unfolding declared_parameters
    parameters-here = ap (parameters_in f.part f.unit name f.path) (sym there)

    element-here : in_element m f.part f.unit name (place_of f.path node) ≡ element_finds m f name
    unfolding in_element
    element-here = rw (types-here, parameters-here) refl

    elements-first : (rest : List Place) → around f.unit f.path ≡ place_of f.path node ∷ rest
        → enclosing_finds m f name ≡ first_of (element_finds m f name ∷ in_elements m f.part f.unit name rest ∷ [])
    elements-first rest is =
        ap (in_elements m f.part f.unit name) is ∙ ap (λ x. first_of (x ∷ in_elements m f.part f.unit name rest ∷ [])) element-here

    header-first : (rest : List Place) → around f.unit f.path ≡ place_of f.path node ∷ rest
        → header_finds m f name ≡ first_of (declared_parameters f name ∷ in_elements m f.part f.unit name rest ∷ [])
    header-first rest is =
        ap (in_header m f.part f.unit name) is ∙ ap (λ x. first_of (x ∷ in_elements m f.part f.unit name rest ∷ [])) parameters-here

  module _ (there : is_some (node_at f.unit f.path) ≡ true) where
    -- it is found here
    pub found-here : (element_finds m f name ≡ Nothing → ⊥) → element_finds m f name ≡ enclosing_finds m f name
    found-here some =
        let node = some_is (node_at f.unit f.path) there in
        let first = around-first f.unit f.path node.0 node.1 in
        sym (elements-first node.0 node.1 first.0 first.1 ∙ first_found _ _ some)

    pub parameter-here : (declared_parameters f name ≡ Nothing → ⊥) → declared_parameters f name ≡ header_finds m f name
    parameter-here some =
        let node = some_is (node_at f.unit f.path) there in
        let first = around-first f.unit f.path node.0 node.1 in
        sym (header-first node.0 node.1 first.0 first.1 ∙ first_found _ _ some)

    -- nothing is around
    alone : f.path ≡ [] → (node : Node) → node_at f.unit f.path ≡ Some node → around f.unit f.path ≡ place_of f.path node ∷ []
    alone e node = subst (λ path. node_at f.unit path ≡ Some node → around f.unit path ≡ place_of path node ∷ []) (sym e) (around-none f.unit node)

    pub none-around : f.path ≡ [] → element_finds m f name ≡ Nothing → Nothing ≡ enclosing_finds m f name
    none-around e none =
        let node = some_is (node_at f.unit f.path) there in
        sym (elements-first node.0 node.1 [] (alone e node.0 node.1) ∙ second_of _ _ none)

    pub none-around_header : f.path ≡ [] → declared_parameters f name ≡ Nothing → Nothing ≡ header_finds m f name
    none-around_header e none =
        let node = some_is (node_at f.unit f.path) there in
        sym (header-first node.0 node.1 [] (alone e node.0 node.1) ∙ second_of _ _ none)

    -- it is further out
    module _ (front : List ℕ) (step : ℕ) (split : f.path ≡ front ++ step ∷ []) where
      further : (node : Node) → node_at f.unit f.path ≡ Some node → around f.unit f.path ≡ place_of f.path node ∷ around f.unit front
      further node =
          subst (λ path. node_at f.unit path ≡ Some node → around f.unit path ≡ place_of path node ∷ around f.unit front) (sym split) (around-more f.unit front step node)

      pub there-outside : is_some (node_at f.unit front) ≡ true
      there-outside =
          let node = some_is (node_at f.unit f.path) there in
          front-there f.unit front step node.0 (ap (node_at f.unit) (sym split) ∙ node.1)

      pub further-out : element_finds m f name ≡ Nothing → enclosing_finds m f name ≡ enclosing_finds m (at_path f front) name
      further-out none =
          let node = some_is (node_at f.unit f.path) there in
          elements-first node.0 node.1 (around f.unit front) (further node.0 node.1) ∙ second_of _ _ none

      pub header-out : declared_parameters f name ≡ Nothing → header_finds m f name ≡ enclosing_finds m (at_path f front) name
      header-out none =
          let node = some_is (node_at f.unit f.path) there in
          header-first node.0 node.1 (around f.unit front) (further node.0 node.1) ∙ second_of _ _ none

  -- nothing stands there
  pub nothing-there : node_at f.unit f.path ≡ None → Nothing ≡ enclosing_finds m f name
  nothing-there e = ap (in_elements m f.part f.unit name) (sym (around-nothing f.unit f.path e))

  pub nothing-there_header : node_at f.unit f.path ≡ None → Nothing ≡ header_finds m f name
  nothing-there_header e = ap (in_header m f.part f.unit name) (sym (around-nothing f.unit f.path e))

  pub scope-nothing : (header : Bool) → false ≡ is_some (node_at f.unit f.path) → Nothing ≡ in_scope m name (scope_of header f)
  scope-nothing true e = nothing-there_header (none_is (node_at f.unit f.path) e)
  scope-nothing false e = nothing-there (none_is (node_at f.unit f.path) e)

  pub scope-header : (header : Bool) → header ≡ true → header_finds m f name ≡ in_scope m name (scope_of header f)
  scope-header header e = ap (λ h. in_scope m name (scope_of h f)) (sym e)

  pub scope-within : (header : Bool) → header ≡ false → enclosing_finds m f name ≡ in_scope m name (scope_of header f)
  scope-within header e = ap (λ h. in_scope m name (scope_of h f)) (sym e)
