-- What stands at each place of a unit: a place is a path of numbers, each the position in the child list of what stands above, from 0.
-- A child list has the type parameters first, then what is written in the order of the source, then what the language adds to a type:
-- the default constructor (JLS 8.8.9, 8.9.2), then `values` and `valueOf` of an enum (JLS 8.9.3).
use Rattle.std.specs.Prelude.{ℕ, Bool, not, ◌==◌, List, [], ◌∷◌, ◌++◌, map, slice_get, Option, Some, None, if◌then◌else◌}
use Rattle.std.specs.Option.{option_and_then}
use Rattle.decl_tree.specs.Legal.{default_constructors}
use Rattle.decl_tree.specs.declared.member.TypeParam.{TypeParam}
use Rattle.decl_tree.specs.declared.member.Param.{Param}
use Rattle.decl_tree.specs.declared.declaration.TypeKind.{TypeKind}
use Rattle.decl_tree.specs.declared.declaration.TypeKind.TheVariants.{Enum, Class, AnnotationType, Interface}
use Rattle.decl_tree.specs.declared.declaration.Member.{Member, out-Member}
use Rattle.decl_tree.specs.declared.declaration.Member.TheOpen.{Member-F}
use Rattle.decl_tree.specs.declared.declaration.TypeDecl.{TypeDecl}
use Rattle.decl_tree.specs.declared.compilation.Body.{Body}
use Rattle.decl_tree.specs.declared.compilation.Body.TheVariants.{Declared, Info}
use Rattle.decl_tree.specs.declared.compilation.UnitText.{UnitText}

pub data Node : Type 0 where
  -- a package, with its unit `package-info` where there is one
  OfPackage : Option UnitText → Node
  -- a type that stands in no other
  Top : TypeDecl → Node
  -- a member of a type of this kind: a field, a method, a constructor, an enum constant or a member type
  Inside : TypeKind → Member → Node
  OfTypeParam : TypeParam → Node
  OfParam : Param → Node
  -- the constructor of a type that writes none. The kind is that of the type around this type, if it stands in one
  DefaultConstructor : Option TypeKind → TypeDecl → Node
  -- the methods of an enum that no source has, and the one parameter of `valueOf`
  Values : Node
  ValueOf : Node
  ValueOfName : Node

-- ---- child lists

-- `values` and `valueOf`
abbrev pub added_methods : TypeKind → List Node
added_methods Enum = Values ∷ ValueOf ∷ []
added_methods Class = []
added_methods AnnotationType = []
added_methods Interface = []

-- a class or an enum without a written constructor has a default one
abbrev pub has_default_constructor : TypeKind → List Member → Bool
has_default_constructor kind members = not (default_constructors kind members == 0)

abbrev pub added_constructor : Option TypeKind → TypeDecl → List Node
added_constructor around d = if has_default_constructor d.kind d.members then DefaultConstructor around d ∷ [] else []

-- what no source has, behind what is written
abbrev pub added : Option TypeKind → TypeDecl → List Node
added around d = added_constructor around d ++ added_methods d.kind

abbrev pub type_children : Option TypeKind → TypeDecl → List Node
type_children around d = map OfTypeParam d.parameters ++ (map (Inside d.kind) d.members ++ added around d)

-- of a method or a constructor
abbrev pub executable_children : List TypeParam → List Param → List Node
executable_children parameters arguments = map OfTypeParam parameters ++ map OfParam arguments

abbrev pub member_children : TypeKind → Member-F Member TypeDecl → List Node
member_children kind (Member-F.Field field) = []
member_children kind (Member-F.Method method) = executable_children method.parameters method.arguments
member_children kind (Member-F.Constructor constructor) = executable_children constructor.parameters constructor.arguments
member_children kind (Member-F.Constant constant) = []
member_children kind (Member-F.Nested d) = type_children (Some kind) d

unfoldable pub children : Node → List Node
children (OfPackage info) = []
children (Top d) = type_children None d
children (Inside kind member) = member_children kind (out-Member member)
children (OfTypeParam parameter) = []
children (OfParam parameter) = []
children (DefaultConstructor around d) = []
children Values = []
children ValueOf = ValueOfName ∷ []
children ValueOfName = []

-- ---- places

-- what stands at the end of this path below a node, if anything does
abbrev pub down : List ℕ → Node → Option Node
down [] node = Some node
down (at ∷ path) node = option_and_then (λ child. down path child) (slice_get (children node) at)

abbrev pub body_root : UnitText → Body → Node
body_root u (Declared d) = Top d
body_root u (Info annotations doc) = OfPackage (Some u)

-- what stands at the empty path of a unit
unfoldable pub root : UnitText → Node
root u = body_root u u.body
