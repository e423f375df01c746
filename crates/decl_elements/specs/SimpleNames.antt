-- The simple names of elements (JLS 6.2), also of what no source has: the methods `values` and `valueOf` of an enum and the parameter `name` of the second (JLS 8.9.3).
use Rattle.std.specs.Prelude.{ℕ, List, [], codes}
use Rattle.decl_tree.specs.declared.declaration.Member.{Member, out-Member}
use Rattle.decl_tree.specs.declared.declaration.Member.TheOpen.{Member-F}
use Rattle.decl_tree.specs.declared.declaration.TypeDecl.{TypeDecl}
use Rattle.decl_elements.specs.Nodes.{Node, OfPackage, Top, Inside, OfTypeParam, OfParam, DefaultConstructor, Values, ValueOf, ValueOfName}

-- a constructor goes by `<init>` (JSR 269, `ExecutableElement`)
abbrev pub constructor_name : List ℕ
constructor_name = codes "<init>"

abbrev pub member_name : Member-F Member TypeDecl → List ℕ
member_name (Member-F.Field field) = field.name
member_name (Member-F.Method method) = method.name
member_name (Member-F.Constructor constructor) = constructor_name
member_name (Member-F.Constant constant) = constant.name
member_name (Member-F.Nested d) = d.name

-- a package has its name from the unit or from a type of it, and none here
unfoldable pub simple_name : Node → List ℕ
simple_name (OfPackage info) = []
simple_name (Top d) = d.name
simple_name (Inside kind member) = member_name (out-Member member)
simple_name (OfTypeParam parameter) = parameter.name
simple_name (OfParam parameter) = parameter.name
simple_name (DefaultConstructor around d) = constructor_name
simple_name Values = codes "values"
simple_name ValueOf = codes "valueOf"
simple_name ValueOfName = codes "name"
