-- Which units are legal. The room is how many more nested types, lists of type arguments and values may open, each inside the one before: 200 for a whole unit.
-- A list of type arguments opens for each type in it. A default constructor (JLS 8.8.9, 8.9.2) counts as a child where none is written, and so do `values` and `valueOf` of an enum (JLS 8.9.3).
use Rattle.std.specs.Prelude.{ℕ, zero, suc, ◌+◌, Bool, true, false, not, ◌&&◌, List, [], ◌∷◌, length, Option, Some, None, nat_lt, nat_le, if◌then◌else◌}
use Rattle.std.specs.List.{list_any}
use Rattle.apt_base.specs.Forms.{is_name, all_fit, fits_if_some}
use Rattle.apt_base.specs.Limits.{max_children, max_depth, max_name_bytes}
use Rattle.decl_tree.specs.declared.type_text.TypeText.{TypeText, out-TypeText}
use Rattle.decl_tree.specs.declared.type_text.NamedPart.{NamedPart, out-NamedPart}
use Rattle.decl_tree.specs.declared.type_text.BaseType.{BaseType, out-BaseType}
use Rattle.decl_tree.specs.declared.type_text.BaseType.TheOpen.{BaseType-F}
use Rattle.decl_tree.specs.declared.annotation.ValueText.{ValueText, out-ValueText}
use Rattle.decl_tree.specs.declared.annotation.AnnotationText.{AnnotationText, out-AnnotationText}
use Rattle.decl_tree.specs.declared.annotation.ElementValuePair.{ElementValuePair}
use Rattle.decl_tree.specs.declared.annotation.ValueText.TheOpen.{ValueText-F}
use Rattle.decl_tree.specs.declared.member.TypeParam.{TypeParam}
use Rattle.decl_tree.specs.declared.member.Param.{Param}
use Rattle.decl_tree.specs.declared.member.FieldDecl.{FieldDecl}
use Rattle.decl_tree.specs.declared.member.MethodDecl.{MethodDecl}
use Rattle.decl_tree.specs.declared.member.ConstructorDecl.{ConstructorDecl}
use Rattle.decl_tree.specs.declared.member.ConstantDecl.{ConstantDecl}
use Rattle.decl_tree.specs.declared.declaration.TypeKind.{TypeKind}
use Rattle.decl_tree.specs.declared.declaration.TypeKind.TheVariants as kind
use Rattle.decl_tree.specs.declared.declaration.Member.{Member, out-Member}
use Rattle.decl_tree.specs.declared.declaration.Member.TheOpen.{Member-F}
use Rattle.decl_tree.specs.declared.declaration.TypeDecl.{TypeDecl}
use Rattle.decl_tree.specs.declared.compilation.Import.{Import}
use Rattle.decl_tree.specs.declared.compilation.Body.{Body}
use Rattle.decl_tree.specs.declared.compilation.Body.TheVariants.{Declared, Info}
use Rattle.decl_tree.specs.declared.compilation.UnitText.{UnitText}

-- ---- types

abbrev pub part_fits : (TypeText → Bool) → NamedPart → Bool
part_fits inside part = is_name (out-NamedPart part).name && fits_if_some (all_fit inside) (out-NamedPart part).arguments

abbrev pub base_fits : (TypeText → Bool) → BaseType-F BaseType NamedPart TypeText → Bool
base_fits inside (BaseType-F.Primitive kind) = true
base_fits inside (BaseType-F.Named parts) = all_fit (part_fits inside) parts
base_fits inside BaseType-F.Wildcard = true

-- a type that stands in a list of type arguments, which opens one more; of what stands around a base nothing is asked
unfoldable pub inside_type : ℕ → TypeText → Bool
inside_type zero text = false
inside_type (suc room) text = base_fits (inside_type room) (out-BaseType (out-TypeText text).base)

unfoldable pub is_legal_type : ℕ → TypeText → Bool
is_legal_type room text = base_fits (inside_type room) (out-BaseType (out-TypeText text).base)

-- ---- values and annotations

abbrev pub pair_fits : (ValueText → Bool) → ElementValuePair → Bool
pair_fits value pair = is_name pair.name && value pair.value

abbrev pub annotation_fits : (ValueText → Bool) → AnnotationText → Bool
annotation_fits value annotation = is_name (out-AnnotationText annotation).name && all_fit (pair_fits value) (out-AnnotationText annotation).values

-- what may be joined: a literal or a chain of names
abbrev pub plain_fits : ValueText-F ValueText AnnotationText ElementValuePair → Bool
plain_fits (ValueText-F.Literal text) = is_name text
plain_fits (ValueText-F.Chain text) = is_name text
plain_fits _ = false

unfoldable pub is_plain : ValueText → Bool
is_plain value = plain_fits (out-ValueText value)

abbrev pub value_fits : (TypeText → Bool) → (ValueText → Bool) → ValueText-F ValueText AnnotationText ElementValuePair → Bool
value_fits type value (ValueText-F.Literal text) = is_name text
value_fits type value (ValueText-F.Negated text) = is_name text
value_fits type value (ValueText-F.Joined items) = all_fit is_plain items && nat_le 2 (length items)
value_fits type value (ValueText-F.Class of) = type of
value_fits type value (ValueText-F.Chain text) = is_name text
value_fits type value (ValueText-F.Array items) = all_fit value items
value_fits type value (ValueText-F.Nested annotation) = annotation_fits value annotation
value_fits type value (ValueText-F.Other text) = is_name text

-- a value opens itself; the items of a joined one open nothing more, since nothing stands in them
unfoldable pub is_legal_value : ℕ → ValueText → Bool
is_legal_value zero value = false
is_legal_value (suc room) value = value_fits (is_legal_type room) (is_legal_value room) (out-ValueText value)

unfoldable pub is_legal_annotation : ℕ → AnnotationText → Bool
is_legal_annotation room annotation = annotation_fits (is_legal_value room) annotation

-- ---- members

-- there are twelve modifiers; of a field that is true or false nothing is asked
abbrev pub is_modifiers : ℕ → Bool
is_modifiers modifiers = nat_lt modifiers 4096

-- how many children an element may have: those of a method or a constructor are its type parameters and its parameters
abbrev pub are_few : ℕ → Bool
are_few children = nat_le children max_children

unfoldable pub is_legal_type_param : ℕ → TypeParam → Bool
is_legal_type_param room p = is_name p.name && all_fit (is_legal_annotation room) p.annotations && all_fit (is_legal_type room) p.bounds

unfoldable pub is_legal_param : ℕ → Param → Bool
is_legal_param room p =
    is_name p.name && is_modifiers p.modifiers && all_fit (is_legal_annotation room) p.annotations && is_legal_type room p.of

unfoldable pub is_legal_field : ℕ → FieldDecl → Bool
is_legal_field room f =
    is_name f.name && is_modifiers f.modifiers && all_fit (is_legal_annotation room) f.annotations && fits_if_some is_name f.doc
    && is_legal_type room f.of && fits_if_some (is_legal_value room) f.constant

unfoldable pub is_legal_method : ℕ → MethodDecl → Bool
is_legal_method room m =
    is_name m.name && is_modifiers m.modifiers && all_fit (is_legal_annotation room) m.annotations && fits_if_some is_name m.doc
    && all_fit (is_legal_type_param room) m.parameters && is_legal_type room m.result && all_fit (is_legal_param room) m.arguments && true
    && all_fit (is_legal_type room) m.thrown && fits_if_some (is_legal_value room) m.default
    && are_few (length m.parameters + length m.arguments)

unfoldable pub is_legal_constructor : ℕ → ConstructorDecl → Bool
is_legal_constructor room c =
    is_modifiers c.modifiers && all_fit (is_legal_annotation room) c.annotations && fits_if_some is_name c.doc
    && all_fit (is_legal_type_param room) c.parameters && all_fit (is_legal_param room) c.arguments && true
    && all_fit (is_legal_type room) c.thrown && are_few (length c.parameters + length c.arguments)

unfoldable pub is_legal_constant : ℕ → ConstantDecl → Bool
is_legal_constant room c = is_name c.name && all_fit (is_legal_annotation room) c.annotations && fits_if_some is_name c.doc && true

-- ---- declarations

-- a canonical name of at most 1,024 bytes, of which this many stand before the simple name
abbrev pub is_canonical : ℕ → List ℕ → Bool
is_canonical start name = is_name name && nat_le (start + length name) max_name_bytes

abbrev pub constructs : Member-F Member TypeDecl → Bool
constructs (Member-F.Constructor constructor) = true
constructs _ = false

-- a default constructor of a class or an enum without a written one
abbrev pub default_constructors : TypeKind → List Member → ℕ
default_constructors kind.Enum members = if list_any (λ m. constructs (out-Member m)) members then 0 else 1
default_constructors kind.Class members = if list_any (λ m. constructs (out-Member m)) members then 0 else 1
default_constructors kind.AnnotationType members = 0
default_constructors kind.Interface members = 0

-- `values` and `valueOf`
abbrev pub enum_methods : TypeKind → ℕ
enum_methods kind.Enum = 2
enum_methods kind.Class = 0
enum_methods kind.AnnotationType = 0
enum_methods kind.Interface = 0

abbrev pub children : TypeDecl → ℕ
children d = length d.parameters + length d.members + default_constructors d.kind d.members + enum_methods d.kind

abbrev pub member_fits : ℕ → (TypeDecl → Bool) → Member-F Member TypeDecl → Bool
member_fits room nested (Member-F.Field field) = is_legal_field room field
member_fits room nested (Member-F.Method method) = is_legal_method room method
member_fits room nested (Member-F.Constructor constructor) = is_legal_constructor room constructor
member_fits room nested (Member-F.Constant constant) = is_legal_constant room constant
member_fits room nested (Member-F.Nested declaration) = nested declaration

-- where a type's canonical name ends, a dot follows before the names of its members
abbrev pub declaration_fits : (ℕ → TypeDecl → Bool) → ℕ → ℕ → TypeDecl → Bool
declaration_fits nested room start d =
    is_canonical start d.name && is_modifiers d.modifiers && all_fit (is_legal_annotation room) d.annotations && fits_if_some is_name d.doc
    && all_fit (is_legal_type_param room) d.parameters && fits_if_some (is_legal_type room) d.superclass
    && all_fit (is_legal_type room) d.interfaces
    && all_fit (λ m. member_fits room (nested (start + length d.name + 1)) (out-Member m)) d.members
    && are_few (children d)

-- a declaration that is nested in one with this much room
unfoldable pub inside_declaration : ℕ → ℕ → TypeDecl → Bool
inside_declaration zero start d = false
inside_declaration (suc room) start d = declaration_fits (inside_declaration room) room start d

unfoldable pub is_legal_declaration : ℕ → ℕ → TypeDecl → Bool
is_legal_declaration room start d = declaration_fits (inside_declaration room) room start d

-- ---- units

unfoldable pub is_legal_import : Import → Bool
is_legal_import i = is_name i.name

-- the bytes of a canonical name before the simple name of a type of this package
abbrev pub package_start : List ℕ → ℕ
package_start [] = 0
package_start (c ∷ cs) = length (c ∷ cs) + 1

unfoldable pub is_legal_body : ℕ → ℕ → Body → Bool
is_legal_body room start (Declared declaration) = is_legal_declaration room start declaration
is_legal_body room start (Info annotations doc) = all_fit (is_legal_annotation room) annotations && fits_if_some is_name doc

unfoldable pub is_legal : UnitText → Bool
is_legal u =
    is_canonical 0 u.package && all_fit is_legal_import u.imports && all_fit is_name u.siblings
    && is_legal_body max_depth (package_start u.package) u.body
