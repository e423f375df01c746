-- An `Element` for contracts: its kind, and the tree that it holds. An element without a tree is one that no source has.
use Rattle.std.specs.Prelude.{Option, Some, None}
use Rattle.std.specs.Option.{option_copied}
use Rattle.decl_tree.specs.declared.member.TypeParam.{TypeParam}
use Rattle.decl_tree.specs.declared.member.Param.{Param}
use Rattle.decl_tree.specs.declared.declaration.TypeKind.{TypeKind}
use Rattle.decl_tree.specs.declared.declaration.TypeKind.TheVariants as kind
use Rattle.decl_tree.specs.declared.declaration.Member.{Member, out-Member}
use Rattle.decl_tree.specs.declared.declaration.Member.TheOpen.{Member-F}
use Rattle.decl_tree.specs.declared.declaration.TypeDecl.{TypeDecl}
use Rattle.decl_tree.specs.declared.compilation.UnitText.{UnitText}
use Rattle.decl_elements.specs.declared.element.Element.{Element}
use Rattle.decl_elements.specs.declared.element.Element.TheVariants as element
use Rattle.decl_elements.specs.declared.place.Place.{Place}
use Rattle.decl_elements.specs.declared.place.Place.TheVariants as place
use Rattle.decl_elements.specs.Nodes.{Node, OfPackage, Top, Inside, OfTypeParam, OfParam, DefaultConstructor, Values, ValueOf, ValueOfName}

pub data Shown : Type 0 where
  Package : Option UnitText → Shown
  Enum : TypeDecl → Shown
  Class : TypeDecl → Shown
  AnnotationType : TypeDecl → Shown
  Interface : TypeDecl → Shown
  EnumConstant : Member → Shown
  Field : Option Member → Shown
  Parameter : Option Param → Shown
  Method : Option Member → Shown
  Constructor : Option Member → Shown
  TypeParameter : TypeParam → Shown

-- ---- which element a node is

abbrev pub type_element : TypeKind → TypeDecl → Shown
type_element kind.Enum d = Enum d
type_element kind.Class d = Class d
type_element kind.AnnotationType d = AnnotationType d
type_element kind.Interface d = Interface d

abbrev pub member_element : Member → Member-F Member TypeDecl → Shown
member_element member (Member-F.Field field) = Field (Some member)
member_element member (Member-F.Method method) = Method (Some member)
member_element member (Member-F.Constructor constructor) = Constructor (Some member)
member_element member (Member-F.Constant constant) = EnumConstant member
member_element member (Member-F.Nested d) = type_element d.kind d

unfoldable pub element_of : Node → Shown
element_of (OfPackage info) = Package info
element_of (Top d) = type_element d.kind d
element_of (Inside kind member) = member_element member (out-Member member)
element_of (OfTypeParam parameter) = TypeParameter parameter
element_of (OfParam parameter) = Parameter (Some parameter)
element_of (DefaultConstructor around d) = Constructor None
element_of Values = Method None
element_of ValueOf = Method None
element_of ValueOfName = Parameter None

-- ---- the values of the code

abbrev pub shown_element : Element → Shown
shown_element (element.Package info) = Package (option_copied info)
shown_element (element.Enum d) = Enum d.now
shown_element (element.Class d) = Class d.now
shown_element (element.AnnotationType d) = AnnotationType d.now
shown_element (element.Interface d) = Interface d.now
shown_element (element.EnumConstant member) = EnumConstant member.now
shown_element (element.Field member) = Field (option_copied member)
shown_element (element.Parameter parameter) = Parameter (option_copied parameter)
shown_element (element.Method member) = Method (option_copied member)
shown_element (element.Constructor member) = Constructor (option_copied member)
shown_element (element.TypeParameter parameter) = TypeParameter parameter.now

abbrev pub node_of : Place → Node
node_of (place.Package info) = OfPackage (option_copied info)
node_of (place.Top d) = Top d.now
node_of (place.Inside kind member) = Inside kind member.now
node_of (place.TypeParameter parameter) = OfTypeParam parameter.now
node_of (place.Parameter parameter) = OfParam parameter.now
node_of (place.DefaultConstructor around d) = DefaultConstructor around d.now
node_of place.Values = Values
node_of place.ValueOf = ValueOf
node_of place.ValueOfName = ValueOfName
