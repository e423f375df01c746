-- What is written at each place of a unit, and not at a place below it: a declaration, annotations, types, and values. At what no source has nothing is written.
use Rattle.std.specs.Prelude.{List, [], ◌∷◌, ◌++◌, Option, None, Some}
use Rattle.std.specs.Option.{option_to_list}
use Rattle.decl_tree.specs.declared.annotation.AnnotationText.{AnnotationText}
use Rattle.decl_tree.specs.declared.annotation.ValueText.{ValueText}
use Rattle.decl_tree.specs.declared.type_text.TypeText.{TypeText}
use Rattle.decl_tree.specs.declared.member.FieldDecl.{FieldDecl}
use Rattle.decl_tree.specs.declared.compilation.Body.{Body}
use Rattle.decl_tree.specs.declared.compilation.Body.TheVariants.{Declared, Info}
use Rattle.decl_tree.specs.declared.compilation.UnitText.{UnitText}
use Rattle.decl_tree.specs.declared.declaration.Member.{Member, out-Member}
use Rattle.decl_tree.specs.declared.declaration.Member.TheOpen.{Member-F}
use Rattle.decl_tree.specs.declared.declaration.TypeDecl.{TypeDecl}
use Rattle.decl_elements.specs.Nodes.{Node, OfPackage, Top, Inside, OfTypeParam, OfParam}

-- ---- declarations of types

abbrev pub member_type : Member-F Member TypeDecl → Option TypeDecl
member_type (Member-F.Nested d) = Some d
member_type _ = None

-- the declaration of a type; None for what is no type
abbrev pub declaration_of : Node → Option TypeDecl
declaration_of (Top d) = Some d
declaration_of (Inside kind member) = member_type (out-Member member)
declaration_of _ = None

-- ---- annotations (JLS 9.7.4)

abbrev pub member_annotations : Member-F Member TypeDecl → List AnnotationText
member_annotations (Member-F.Field field) = field.annotations
member_annotations (Member-F.Method method) = method.annotations
member_annotations (Member-F.Constructor constructor) = constructor.annotations
member_annotations (Member-F.Constant constant) = constant.annotations
member_annotations (Member-F.Nested d) = d.annotations

abbrev pub body_annotations : Body → List AnnotationText
body_annotations (Declared d) = []
body_annotations (Info annotations doc) = annotations

-- those of a package stand in its unit `package-info` (JLS 7.4.1)
abbrev pub package_annotations : Option UnitText → List AnnotationText
package_annotations None = []
package_annotations (Some unit) = body_annotations unit.body

unfoldable pub annotations : Node → List AnnotationText
annotations (OfPackage info) = package_annotations info
annotations (Top d) = d.annotations
annotations (Inside kind member) = member_annotations (out-Member member)
annotations (OfTypeParam parameter) = parameter.annotations
annotations (OfParam parameter) = parameter.annotations
annotations _ = []

-- ---- types

abbrev pub header : TypeDecl → List TypeText
header d = option_to_list d.superclass ++ d.interfaces

abbrev pub member_types : Member-F Member TypeDecl → List TypeText
member_types (Member-F.Field field) = field.of ∷ []
member_types (Member-F.Method method) = method.result ∷ method.thrown
member_types (Member-F.Constructor constructor) = constructor.thrown
member_types (Member-F.Constant constant) = []
member_types (Member-F.Nested d) = header d

-- of a type those of its header, of a field or a parameter its own, of a method its result and what it throws, of a type parameter its bounds
unfoldable pub types : Node → List TypeText
types (Top d) = header d
types (Inside kind member) = member_types (out-Member member)
types (OfTypeParam parameter) = parameter.bounds
types (OfParam parameter) = parameter.of ∷ []
types _ = []

-- ---- fields and values

abbrev pub member_field : Member-F Member TypeDecl → Option FieldDecl
member_field (Member-F.Field field) = Some field
member_field _ = None

abbrev pub field_of : Node → Option FieldDecl
field_of (Inside kind member) = member_field (out-Member member)
field_of _ = None

abbrev pub member_default : Member-F Member TypeDecl → Option ValueText
member_default (Member-F.Method method) = method.default
member_default _ = None

-- the default of a method (JLS 9.6.2)
abbrev pub default : Node → Option ValueText
default (Inside kind member) = member_default (out-Member member)
default _ = None

abbrev pub member_values : Member-F Member TypeDecl → List ValueText
member_values (Member-F.Field field) = option_to_list field.constant
member_values (Member-F.Method method) = option_to_list method.default
member_values (Member-F.Constructor constructor) = []
member_values (Member-F.Constant constant) = []
member_values (Member-F.Nested d) = []

-- of a field its initialiser where it is a constant form, of a method its default
unfoldable pub values : Node → List ValueText
values (Inside kind member) = member_values (out-Member member)
values _ = []
