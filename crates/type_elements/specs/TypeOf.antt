-- The type of an element: of a type with its own type parameters as arguments, of a field or a parameter the meaning of what is written, of a method or a constructor the types of its parts.
use Rattle.std.specs.Prelude.{List, [], ◌∷◌, map, Option, None, Some}
use Rattle.apt_base.specs.declared.element.ElementRef.{ElementRef}
use Rattle.decl_tree.specs.declared.type_text.TypeText.{TypeText}
use Rattle.decl_tree.specs.declared.declaration.Member.{Member, out-Member}
use Rattle.decl_tree.specs.declared.declaration.Member.TheOpen.{Member-F}
use Rattle.decl_tree.specs.declared.declaration.TypeDecl.{TypeDecl}
use Rattle.decl_tree.specs.declared.member.Param.{Param}
use Rattle.decl_elements.specs.Nodes.{Node, OfPackage, Top, Inside, OfTypeParam, OfParam, DefaultConstructor, Values, ValueOf, ValueOfName}
use Rattle.element_table.specs.TypeTable.{TypeTable}
use Rattle.element_table.specs.TableElements.{node_at}
use Rattle.type_mirror.specs.declared.mirror.Mirror.{Mirror}
use Rattle.type_layers.specs.Layers.{Variable, Nothing, Void, Package, mirror_of, array_of, declared_mirror, executable_mirror}
use Rattle.type_relations.specs.Elements.{type_parameters, around_of, canonical_name}
use Rattle.type_relations.specs.Named.{string, meaning_in, written_types}

-- type parameters as arguments
abbrev pub own_arguments : List ElementRef → List Mirror
own_arguments parameters = map (λ parameter. mirror_of (Variable parameter)) parameters

-- of a type
abbrev pub own_type : TypeTable → ElementRef → Mirror
own_type table at = declared_mirror at None (own_arguments (type_parameters table at))

-- what is written of several parameters
abbrev pub parameter_types : TypeTable → ElementRef → List Param → List Mirror
parameter_types table at parameters = map (λ p. meaning_in table at p.of) parameters

-- of a method or a constructor, by its result
abbrev pub executable_type : TypeTable → ElementRef → List Param → Mirror → List TypeText → Mirror
executable_type table at parameters outcome thrown =
    executable_mirror (type_parameters table at) (parameter_types table at parameters) outcome (written_types table at thrown)

abbrev pub member_type : TypeTable → ElementRef → Member-F Member TypeDecl → Mirror
member_type table at (Member-F.Field field) = meaning_in table at field.of
member_type table at (Member-F.Method method) = executable_type table at method.arguments (meaning_in table at method.result) method.thrown
member_type table at (Member-F.Constructor constructor) = executable_type table at constructor.arguments (mirror_of Void) constructor.thrown
member_type table at (Member-F.Constant constant) = own_type table (around_of table at)
member_type table at (Member-F.Nested d) = own_type table at

-- of what no source has: a default constructor takes nothing, `values` gives an array of the enum, and `valueOf` the enum by a name
abbrev pub node_type : TypeTable → ElementRef → Node → Mirror
node_type table at (OfPackage info) = mirror_of (Package (canonical_name table at))
node_type table at (Top d) = own_type table at
node_type table at (Inside kind member) = member_type table at (out-Member member)
node_type table at (OfTypeParam parameter) = mirror_of (Variable at)
node_type table at (OfParam parameter) = meaning_in table at parameter.of
node_type table at (DefaultConstructor around d) = executable_mirror [] [] (mirror_of Void) []
node_type table at Values = executable_mirror [] [] (array_of (own_type table (around_of table at))) []
node_type table at ValueOf = executable_mirror [] (string table ∷ []) (own_type table (around_of table at)) []
node_type table at ValueOfName = string table

abbrev pub type_at : TypeTable → ElementRef → Option Node → Mirror
type_at table at None = mirror_of Nothing
type_at table at (Some node) = node_type table at node

-- of an element that is there
unfoldable pub type_of : TypeTable → ElementRef → Mirror
type_of table at = type_at table at (node_at table at)
