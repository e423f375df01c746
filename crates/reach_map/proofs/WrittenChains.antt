-- What holds of each chain of a unit holds of the chains in the headers of its types.
use Rattle.std.proofs.Common.{◌≡◌, ℕ, List, [], ◌∷◌, ◌++◌, None, Some, refl, sym, subst}
use Rattle.std.specs.List.{AllByRecursion, flat_map}
use Rattle.std.specs.Option.{option_and_then, option_to_list}
use Rattle.apt_base.specs.declared.around.Around.{Around}
use Rattle.decl_tree.specs.declared.type_text.TypeText.{TypeText, out-TypeText}
use Rattle.decl_tree.specs.declared.type_text.BaseType.{BaseType, out-BaseType, roll-BaseType, roll-out-BaseType}
use Rattle.decl_tree.specs.declared.type_text.BaseType.TheOpen.{BaseType-F}
use Rattle.decl_tree.specs.declared.type_text.NamedPart.{NamedPart}
use Rattle.decl_tree.specs.declared.declaration.Member.{Member, out-Member}
use Rattle.decl_tree.specs.declared.declaration.Member.TheOpen.{Member-F}
use Rattle.decl_tree.specs.declared.declaration.TypeDecl.{TypeDecl}
use Rattle.decl_tree.specs.declared.compilation.UnitText.{UnitText}
use Rattle.decl_elements.specs.Nodes.{Node, OfPackage, Top, Inside, OfTypeParam, OfParam, DefaultConstructor, Values, ValueOf, ValueOfName, down, root}
use Rattle.decl_elements.specs.Walk.{Place, place_of, places}
use Rattle.decl_elements.specs.Written.{annotations, declaration_of, header, member_type, member_types, types}
use Rattle.name_resolve.specs.Ways.{node_at, type_at}
use Rattle.name_resolve.specs.Supertypes.{base_names, bare, names_in}
use Rattle.reach_map.specs.Chains.{Chains, of_option, type_chains, annotation_chains, node_chains, unit_chains}
use Rattle.reach_map.proofs.ChainsLemmas.{base_chains, base_chains-roll, part_names, type_chains-base}
use Rattle.decl_elements.proofs.Everywhere.{OfSome, each_left, each_right, each_of_flat_map, each_to, each_found}
use Rattle.decl_elements.proofs.WalkLaws.{are_places}

-- of each chain in the header of a type
abbrev pub OfHeader : (List (List ℕ) → Type 0) → TypeDecl → Type 0
OfHeader Q d = AllByRecursion Q (flat_map type_chains (header d))

module _ (Q : List (List ℕ) → Type 0) (none : Q []) where
  -- of a type text
  of_base : (x : BaseType-F BaseType NamedPart TypeText) → AllByRecursion Q (base_chains (roll-BaseType x)) → Q (base_names x)
  of_base (BaseType-F.Primitive kind) a = none
  of_base (BaseType-F.Named parts) a =
      let P : Chains → Type 0 = AllByRecursion Q in
      subst Q (part_names parts) (subst P (base_chains-roll (BaseType-F.Named parts)) a).0
  of_base BaseType-F.Wildcard a = none

  of_bare : (around : List Around) (names : List (List ℕ)) → Q names → Q (bare around names)
  of_bare [] names q = q
  of_bare (first ∷ more) names q = none

  pub of_type : (text : TypeText) → AllByRecursion Q (type_chains text) → Q (names_in text)
  unfolding names_in
  of_type text a =
      let P : Chains → Type 0 = AllByRecursion Q in
      let B : BaseType → Type 0 = λ b. AllByRecursion Q (base_chains b) in
      of_bare (out-TypeText text).around (base_names (out-BaseType (out-TypeText text).base))
      (of_base (out-BaseType (out-TypeText text).base) (subst B (sym (roll-out-BaseType (out-TypeText text).base)) (subst P (type_chains-base text) a)))

  -- ---- of the header of a type

  of_header : (d : TypeDecl) → OfHeader Q d → AllByRecursion (λ text. AllByRecursion Q (type_chains text)) (header d)
  of_header d a = each_of_flat_map Q type_chains (header d) a

  pub of_superclass : (d : TypeDecl) → OfHeader Q d → AllByRecursion Q (of_option type_chains d.superclass)
  of_superclass d a =
      elim d.superclass as (λ o. AllByRecursion (λ text. AllByRecursion Q (type_chains text)) (option_to_list o ++ d.interfaces) → AllByRecursion Q (of_option type_chains o)) [
        | None ↦ λ a. tt
        | Some text ↦ λ a. a.0
      ] (of_header d a)

  pub of_interface_chains : (d : TypeDecl) → OfHeader Q d → AllByRecursion (λ text. AllByRecursion Q (type_chains text)) d.interfaces
  of_interface_chains d a = each_right (λ text. AllByRecursion Q (type_chains text)) (option_to_list d.superclass) d.interfaces (of_header d a)

  pub of_interfaces : (d : TypeDecl) → OfHeader Q d → AllByRecursion (λ text. Q (names_in text)) d.interfaces
  of_interfaces d a = each_to (λ text. AllByRecursion Q (type_chains text)) (λ text. Q (names_in text)) of_type d.interfaces (of_interface_chains d a)

  -- ---- of what stands in a unit

  abbrev InNode : Node → Type 0
  InNode node = AllByRecursion Q (node_chains node)

  of_types : (node : Node) → InNode node → AllByRecursion Q (flat_map type_chains (types node))
  of_types node a = each_right Q (flat_map annotation_chains (annotations node)) _ (each_left Q _ _ a)

  of_member : (x : Member-F Member TypeDecl) → AllByRecursion Q (flat_map type_chains (member_types x)) → OfSome (OfHeader Q) (member_type x)
  of_member (Member-F.Field field) a = tt
  of_member (Member-F.Method method) a = tt
  of_member (Member-F.Constructor constructor) a = tt
  of_member (Member-F.Constant constant) a = tt
  of_member (Member-F.Nested d) a = a

  of_node : (node : Node) → AllByRecursion Q (flat_map type_chains (types node)) → OfSome (OfHeader Q) (declaration_of node)
  unfolding types
  of_node (OfPackage info) a = tt
  of_node (Top d) a = a
  of_node (Inside kind member) a = of_member (out-Member member) a
  of_node (OfTypeParam parameter) a = tt
  of_node (OfParam parameter) a = tt
  of_node (DefaultConstructor above d) a = tt
  of_node Values a = tt
  of_node ValueOf a = tt
  of_node ValueOfName a = tt

  in_places : (u : UnitText) → AllByRecursion Q (unit_chains u) → AllByRecursion (λ (at : Place). InNode at.node) (places u)
  unfolding unit_chains
  in_places u a = each_of_flat_map Q (λ (at : Place). node_chains at.node) (places u) a

  -- of what stands at the end of a path, which is one of the places
  in_down : (u : UnitText) → AllByRecursion Q (unit_chains u) → (path : List ℕ) (node : Node) → down path (root u) ≡ Some node → InNode node
  in_down u a path node is =
      let has = (are_places u).all path node is in
      each_found (λ (at : Place). InNode at.node) (places u) has.0 (place_of path node) (in_places u a) has.1 has.2

  -- of the type at a path of a unit
  pub in_type_at : (u : UnitText) → AllByRecursion Q (unit_chains u) → (path : List ℕ) → OfSome (OfHeader Q) (type_at u path)
  unfolding node_at
  in_type_at u a path =
      elim (down path (root u)) as (λ o. down path (root u) ≡ o → OfSome (OfHeader Q) (option_and_then declaration_of o)) [
        | None ↦ λ is. tt
        | Some node ↦ λ is. of_node node (of_types node (in_down u a path node is))
      ] refl
