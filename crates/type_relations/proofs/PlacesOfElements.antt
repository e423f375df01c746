-- What stands at an element, by what its unit has there, and the type parameters of a node among its children.
use Rattle.std.proofs.Common.{◌≡◌, ◌⊎◌, inl, inr, ℕ, ◌≤◌, length, List, [], ◌∷◌, ◌++◌, map, Option, None, Some, option_map, is_some, unwrap_or, refl, sym, ap, ◌∙◌, length-append, arith}
use Rattle.std.specs.Option.{option_and_then}
use Rattle.std.proofs.lemmas.List.{length-map}
use Rattle.apt_base.specs.declared.element.ElementRef.{ElementRef}
use Rattle.decl_tree.specs.declared.declaration.TypeKind.{TypeKind}
use Rattle.decl_tree.specs.declared.declaration.Member.{Member, out-Member}
use Rattle.decl_tree.specs.declared.declaration.Member.TheOpen.{Member-F}
use Rattle.decl_tree.specs.declared.declaration.TypeDecl.{TypeDecl}
use Rattle.decl_tree.specs.declared.compilation.UnitText.{UnitText}
use Rattle.decl_elements.specs.Nodes.{Node, OfPackage, Top, Inside, OfTypeParam, OfParam, DefaultConstructor, Values, ValueOf, ValueOfName, children, down, member_children}
use Rattle.decl_elements.specs.Shown.{Shown, element_of}
use Rattle.element_table.specs.TypeTable.{TypeTable, unit_of}
use Rattle.element_table.specs.TableElements.{typed_package, info_package, node_from, node_at}
use Rattle.type_relations.specs.Elements.{member_parameters, declared_parameters, parameters_of, name_by}

-- ---- a package without a unit

down_package : (path : List ℕ) → (down path (OfPackage None) ≡ None) ⊎ (down path (OfPackage None) ≡ Some (OfPackage None))
unfolding children
down_package [] = inr refl
down_package (step ∷ path) = inl refl

without_unit : (table : TypeTable) (name path : List ℕ) → (node_from table None name path ≡ None) ⊎ (node_from table None name path ≡ Some (OfPackage None))
without_unit table name path = at (typed_package table (info_package name))
  where
    at : (o : Option (List ℕ)) → (option_and_then (λ «package». down path (OfPackage None)) o ≡ None) ⊎ (option_and_then (λ «package». down path (OfPackage None)) o ≡ Some (OfPackage None))
    at None = inl refl
    at (Some «package») = down_package path

node-without : (table : TypeTable) (at : ElementRef) → unit_of table at.unit ≡ None → node_at table at ≡ node_from table None at.unit at.path
unfolding node_at
node-without table at e = ap (λ (u : Option UnitText). node_from table u at.unit at.path) e

pub place-within : (table : TypeTable) (at : ElementRef) (unit : UnitText) → unit_of table at.unit ≡ Some unit → node_at table at ≡ node_from table (Some unit) at.unit at.path
unfolding node_at
place-within table at unit e = ap (λ (u : Option UnitText). node_from table u at.unit at.path) e

-- by what an element without a unit is
pub place-package : (table : TypeTable) (at : ElementRef) (x : Shown) → unit_of table at.unit ≡ None → option_map element_of (node_at table at) ≡ Some x → Some (OfPackage None) ≡ node_at table at
place-package table at x e h =
    by (node_from table None at.unit at.path) (without_unit table at.unit at.path) (sym (ap (option_map element_of) (node-without table at e)) ∙ h) ∙ sym (node-without table at e)
  where
    by : (o : Option Node) → (o ≡ None) ⊎ (o ≡ Some (OfPackage None)) → option_map element_of o ≡ Some x → Some (OfPackage None) ≡ o
    by o (inl none) h = let lost : None ≡ Some x = sym (ap (option_map element_of) none) ∙ h in absurd cc
    by o (inr some) h = sym some

pub no_children : length (children (OfPackage None)) ≡ 0
unfolding children
no_children = refl

-- ---- options

pub is_some-map : {A B : Type 0} (f : A → B) (o : Option A) → is_some o ≡ is_some (option_map f o)
is_some-map f None = refl
is_some-map f (Some x) = refl

-- ---- type parameters stand first among the children

few_first : {A B : Type 0} (f : A → B) (xs : List A) (rest : List B) → length xs ≤ length (map f xs ++ rest)
few_first f xs rest = omega (arith, length-append (map f xs) rest, length-map xs f)

few_members : (kind : TypeKind) (m : Member-F Member TypeDecl) → length (member_parameters m) ≤ length (member_children kind m)
few_members kind (Member-F.Field field) = omega arith
few_members kind (Member-F.Method method) = few_first OfTypeParam method.parameters _
few_members kind (Member-F.Constructor constructor) = few_first OfTypeParam constructor.parameters _
few_members kind (Member-F.Constant constant) = omega arith
few_members kind (Member-F.Nested d) = few_first OfTypeParam d.parameters _

pub few_parameters : (node : Node) → length (declared_parameters node) ≤ length (children node)
unfolding children
few_parameters (OfPackage info) = omega arith
few_parameters (Top d) = few_first OfTypeParam d.parameters _
few_parameters (Inside kind member) = few_members kind (out-Member member)
few_parameters (OfTypeParam parameter) = omega arith
few_parameters (OfParam parameter) = omega arith
few_parameters (DefaultConstructor around d) = omega arith
few_parameters Values = omega arith
few_parameters ValueOf = omega arith
few_parameters ValueOfName = omega arith

-- ---- by what stands there

module _ (table : TypeTable) (at : ElementRef) where
  pub name_by-none : (name : Node → Option (List ℕ)) → None ≡ node_at table at → [] ≡ name_by table name at
  name_by-none name e = ap (λ (o : Option Node). unwrap_or (option_and_then name o) []) e

  pub name_by-some : (name : Node → Option (List ℕ)) (node : Node) → Some node ≡ node_at table at → unwrap_or (name node) [] ≡ name_by table name at
  name_by-some name node e = ap (λ (o : Option Node). unwrap_or (option_and_then name o) []) e

  pub parameters-none : None ≡ node_at table at → 0 ≡ length (parameters_of (node_at table at))
  parameters-none e = ap (λ (o : Option Node). length (parameters_of o)) e
