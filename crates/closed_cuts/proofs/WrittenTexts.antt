-- All that is written at an element is written in its unit, since the element stands at one of the places of the unit.
use Rattle.std.proofs.Common.{◌≡◌, ℕ, zero, suc, ◌+◌, List, [], ◌∷◌, ◌++◌, map, None, Some, slice_get, refl, sym, ap, subst, arith}
use Rattle.std.specs.List.{AllByRecursion, Contains, enumerate_from, flat_map}
use Rattle.std.specs.Option.{option_and_then}
use Rattle.std.proofs.lemmas.Option.{same_Some, none-some}
use Rattle.decl_tree.specs.declared.compilation.UnitText.{UnitText}
use Rattle.decl_tree.specs.declared.declaration.TypeKind.{TypeKind}
use Rattle.decl_tree.specs.declared.declaration.Member.{Member, out-Member}
use Rattle.decl_tree.specs.declared.declaration.Member.TheOpen.{Member-F}
use Rattle.decl_tree.specs.declared.declaration.TypeDecl.{TypeDecl}
use Rattle.decl_tree.specs.declared.member.Param.{Param}
use Rattle.decl_elements.specs.Nodes.{Node, OfPackage, Top, Inside, OfTypeParam, OfParam, DefaultConstructor, Values, ValueOf, ValueOfName, member_children, children, down, root}
use Rattle.decl_elements.specs.Walk.{Place, place_of, places}
use Rattle.decl_elements.specs.Written.{annotations, member_types, types, values}
use Rattle.decl_elements.proofs.WalkLaws.{are_places}
use Rattle.decl_elements.proofs.Everywhere.{each_left, each_right, each_append, each_of_flat_map, each_found}
use Rattle.name_resolve.specs.Ways.{node_at}
use Rattle.reach_map.specs.Chains.{Chains, annotation_chains, type_chains, value_chains, node_chains, unit_chains}
use Rattle.reach_map.specs.ClosedCuts.{IsWritten}
use Rattle.closed_cuts.specs.NodeTexts.{argument_texts, member_texts, node_texts, IsWrittenIn, AllIsWritten}
use Rattle.closed_cuts.specs.Kept.{IfAny}

-- ---- lists and paths

shifted : {A : Type 0} (y : A) (xs zs : List A) → AllByRecursion (Contains xs) zs → AllByRecursion (Contains (y ∷ xs)) zs
shifted y xs [] a = tt
shifted y xs (z ∷ zs) a = ((suc a.0.0, omega (arith, a.0.1), a.0.2), shifted y xs zs a.1)

contains_all : {A : Type 0} (xs : List A) → AllByRecursion (Contains xs) xs
contains_all [] = tt
contains_all (x ∷ xs) = ((zero, omega arith, refl), shifted x xs xs (contains_all xs))

by_index : {A : Type 0} (P : A → Type 0) (xs : List A) → ((k : ℕ) (x : A) → slice_get xs k ≡ Some x → P x) → AllByRecursion P xs
by_index P [] f = tt
by_index P (x ∷ xs) f = (f 0 x refl, by_index P xs (λ k y e. f (suc k) y e))

numbered : {A : Type 0} (P : A → Type 0) (first : ℕ) (xs : List A) → AllByRecursion P xs → AllByRecursion (λ (x : ℕ × A). P x.1) (enumerate_from first xs)
numbered P first [] all = tt
numbered P first (x ∷ xs) all = (all.0, numbered P (first + 1) xs all.1)

down_child : (path : List ℕ) (k : ℕ) (from node child : Node) → down path from ≡ Some node → slice_get (children node) k ≡ Some child → down (path ++ k ∷ []) from ≡ Some child
down_child [] k from node child e g =
    let P : Node → Type 0 = λ m. slice_get (children m) k ≡ Some child in
    ap (option_and_then (λ c. down [] c)) (subst P (sym (same_Some _ _ e)) g)
down_child (s ∷ path) k from node child e g =
    elim (slice_get (children from) s) as (λ o. option_and_then (λ c. down path c) o ≡ Some node → option_and_then (λ c. down (path ++ k ∷ []) c) o ≡ Some child) [
      | None ↦ λ f. absurd (none-some _ f)
      | Some c ↦ λ f. down_child path k c node child f g
    ] e

module _ (u : UnitText) where
  abbrev C : List (List ℕ) → Type 0
  C = Contains (unit_chains u)

  -- each chain that is written at it is one of the unit
  abbrev InNode : Node → Type 0
  InNode node = AllByRecursion C (node_chains node)

  by_place : AllByRecursion (λ (at : Place). InNode at.node) (places u)
  unfolding unit_chains
  by_place = each_of_flat_map C (λ (at : Place). node_chains at.node) (places u) (contains_all (unit_chains u))

  at_place : (path : List ℕ) (node : Node) → down path (root u) ≡ Some node → InNode node
  at_place path node e =
      let has = (are_places u).all path node e in
      each_found (λ (at : Place). InNode at.node) (places u) has.0 (place_of path node) by_place has.1 has.2

  in_children : (path : List ℕ) (node : Node) → down path (root u) ≡ Some node → AllByRecursion InNode (children node)
  in_children path node e = by_index InNode (children node) (λ k child g. at_place (path ++ k ∷ []) child (down_child path k (root u) node child e g))

  -- ---- what is written at a node, part by part

  abbrev annotation_part : Node → Chains
  annotation_part node = flat_map annotation_chains (annotations node)

  abbrev type_part : Node → Chains
  type_part node = flat_map type_chains (types node)

  abbrev value_part : Node → Chains
  value_part node = flat_map value_chains (values node)

  of_annotations : (node : Node) → InNode node → AllByRecursion (λ a. AllByRecursion C (annotation_chains a)) (annotations node)
  of_annotations node a =
      each_of_flat_map C annotation_chains (annotations node)
      (each_left C (annotation_part node) (type_part node) (each_left C (annotation_part node ++ type_part node) (value_part node) a))

  of_types : (node : Node) → InNode node → AllByRecursion (IsWritten u) (types node)
  of_types node a =
      each_of_flat_map C type_chains (types node)
      (each_right C (annotation_part node) (type_part node) (each_left C (annotation_part node ++ type_part node) (value_part node) a))

  of_values : (node : Node) → InNode node → AllByRecursion (λ v. AllByRecursion C (value_chains v)) (values node)
  of_values node a = each_of_flat_map C value_chains (values node) (each_right C (annotation_part node ++ type_part node) (value_part node) a)

  -- ---- the texts that the type of an element is made of

  of_params : (ps : List Param) → AllByRecursion InNode (map OfParam ps) → AllByRecursion (IsWritten u) (argument_texts ps)
  unfolding types
  of_params [] a = tt
  of_params (p ∷ ps) a = ((of_types (OfParam p) a.0).0, of_params ps a.1)

  of_member : (kind : TypeKind) (x : Member-F Member TypeDecl) → AllByRecursion InNode (member_children kind x)
      → AllByRecursion (IsWritten u) (member_types x) → AllByRecursion (IsWritten u) (member_texts x)
  of_member kind (Member-F.Field field) below a = a
  of_member kind (Member-F.Method method) below a = (
    a.0,
    each_append (IsWritten u) (argument_texts method.arguments) method.thrown
        (of_params method.arguments (each_right InNode (map OfTypeParam method.parameters) (map OfParam method.arguments) below)) a.1,
  )
  of_member kind (Member-F.Constructor constructor) below a =
      each_append (IsWritten u) (argument_texts constructor.arguments) constructor.thrown
      (of_params constructor.arguments (each_right InNode (map OfTypeParam constructor.parameters) (map OfParam constructor.arguments) below)) a
  of_member kind (Member-F.Constant constant) below a = tt
  of_member kind (Member-F.Nested d) below a = tt

  of_node : (node : Node) → AllByRecursion InNode (children node) → AllByRecursion (IsWritten u) (types node) → AllByRecursion (IsWritten u) (node_texts node)
  unfolding children types
  of_node (OfPackage info) below a = a
  of_node (Top d) below a = tt
  of_node (Inside kind member) below a = of_member kind (out-Member member) below a
  of_node (OfTypeParam parameter) below a = a
  of_node (OfParam parameter) below a = a
  of_node (DefaultConstructor around d) below a = a
  of_node Values below a = a
  of_node ValueOf below a = a
  of_node ValueOfName below a = a

  written_in : (path : List ℕ) (node : Node) → down path (root u) ≡ Some node → IsWrittenIn u node
  written_in path node e =
      let here = at_place path node e in
      record {
        texts = of_node node (in_children path node e) (of_types node here);
        types = of_types node here;
        annotations = of_annotations node here;
        values = of_values node here;
      }

  children_in : (path : List ℕ) (node : Node) → down path (root u) ≡ Some node → AllByRecursion (λ (child : ℕ × Node). IsWrittenIn u child.1) (enumerate_from 0 (children node))
  children_in path node e =
      numbered (IsWrittenIn u) 0 (children node)
      (by_index (IsWrittenIn u) (children node) (λ k child g. written_in (path ++ k ∷ []) child (down_child path k (root u) node child e g)))

pub all-written : AllIsWritten
unfolding node_at
all-written u path =
    elim (down path (root u)) as (λ o. down path (root u) ≡ o → IfAny (IsWrittenIn u) o) [
      | None ↦ λ e. tt
      | Some node ↦ λ e. written_in u path node e
    ] refl

-- the same of what it encloses
pub children-written : (u : UnitText) (path : List ℕ) → IfAny (λ node. AllByRecursion (λ (child : ℕ × Node). IsWrittenIn u child.1) (enumerate_from 0 (children node))) (node_at u path)
unfolding node_at
children-written u path =
    elim (down path (root u)) as (λ o. down path (root u) ≡ o → IfAny (λ node. AllByRecursion (λ (child : ℕ × Node). IsWrittenIn u child.1) (enumerate_from 0 (children node))) o) [
      | None ↦ λ e. tt
      | Some node ↦ λ e. children_in u path node e
    ] refl
