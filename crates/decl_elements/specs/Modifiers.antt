-- The modifiers of an element, a bit each: those that are written and those that the language implies (JLS 8.1.1, 8.5.1, 8.8.9, 8.9, 9.1.1, 9.3, 9.4, 9.5).
use Rattle.std.specs.Prelude.{ℕ, Bool, true, false, not, ◌&&◌, ◌==◌, List, Option, Some, None, bit_and, bit_or, if◌then◌else◌}
use Rattle.std.specs.List.{list_any}
use Rattle.decl_tree.specs.declared.declaration.TypeKind.{TypeKind}
use Rattle.decl_tree.specs.declared.declaration.TypeKind.TheVariants.{Enum, Class, AnnotationType, Interface}
use Rattle.decl_tree.specs.declared.declaration.Member.{Member, out-Member}
use Rattle.decl_tree.specs.declared.declaration.Member.TheOpen.{Member-F}
use Rattle.decl_tree.specs.declared.declaration.TypeDecl.{TypeDecl}
use Rattle.decl_elements.specs.Nodes.{Node, OfPackage, Top, Inside, OfTypeParam, OfParam, DefaultConstructor, Values, ValueOf, ValueOfName}

abbrev pub none : ℕ
none = 0

abbrev pub is_public : ℕ
is_public = 1

abbrev pub is_private : ℕ
is_private = 4

-- public, protected or private
abbrev pub is_access : ℕ
is_access = 7

abbrev pub is_abstract : ℕ
is_abstract = 8

abbrev pub is_static : ℕ
is_static = 32

abbrev pub is_final : ℕ
is_final = 64

-- private, default or static
abbrev pub has_body : ℕ
has_body = 52

-- static and final
abbrev pub is_constant : ℕ
is_constant = 96

-- whether one of these is among the modifiers
abbrev pub has : ℕ → ℕ → Bool
has wanted modifiers = not (bit_and modifiers wanted == 0)

-- an interface or an annotation interface
abbrev pub is_interface : TypeKind → Bool
is_interface Enum = false
is_interface Class = false
is_interface AnnotationType = true
is_interface Interface = true

-- ---- members, by the kind of their type and what is written

-- a member of an interface that isn't private is public
abbrev pub published : TypeKind → ℕ → ℕ
published kind written = bit_or written (if is_interface kind && not (has is_private written) then is_public else none)

-- a field of an interface is static and final
abbrev pub field_modifiers : TypeKind → ℕ → ℕ
field_modifiers kind written = bit_or (published kind written) (if is_interface kind then is_constant else none)

-- a method of an interface that is neither private, default nor static is abstract
abbrev pub method_modifiers : TypeKind → ℕ → ℕ
method_modifiers kind written = bit_or (published kind written) (if is_interface kind && not (has has_body written) then is_abstract else none)

-- a constructor of an enum is private
abbrev pub enum_access : TypeKind → ℕ
enum_access Enum = is_private
enum_access Class = none
enum_access AnnotationType = none
enum_access Interface = none

abbrev pub constructor_modifiers : TypeKind → ℕ → ℕ
constructor_modifiers kind written = bit_or (published kind written) (enum_access kind)

-- public, static and final
abbrev pub constant_modifiers : ℕ
constant_modifiers = 97

-- public and static
abbrev pub enum_method_modifiers : ℕ
enum_method_modifiers = 33

-- ---- types

abbrev pub is_embodied : Member-F Member TypeDecl → Bool
is_embodied (Member-F.Constant constant) = constant.body
is_embodied _ = false

-- an interface is abstract, and an enum none of whose constants has a body is final
abbrev pub kind_modifiers : TypeKind → List Member → ℕ
kind_modifiers Enum members = if list_any (λ m. is_embodied (out-Member m)) members then none else is_final
kind_modifiers Class members = none
kind_modifiers AnnotationType members = is_abstract
kind_modifiers Interface members = is_abstract

-- a nested type that is no class is static, and so is each type in an interface
abbrev pub nested_modifiers : TypeKind → TypeKind → ℕ
nested_modifiers around Enum = is_static
nested_modifiers around Class = if is_interface around then is_static else none
nested_modifiers around AnnotationType = is_static
nested_modifiers around Interface = is_static

abbrev pub placed_modifiers : Option TypeKind → TypeDecl → ℕ
placed_modifiers None d = d.modifiers
placed_modifiers (Some around) d = bit_or (published around d.modifiers) (nested_modifiers around d.kind)

abbrev pub type_modifiers : Option TypeKind → TypeDecl → ℕ
type_modifiers around d = bit_or (placed_modifiers around d) (kind_modifiers d.kind d.members)

-- that of a class has the access of its class, that of an enum is private
abbrev pub access_by : TypeKind → ℕ → ℕ
access_by Enum modifiers = is_private
access_by Class modifiers = bit_and modifiers is_access
access_by AnnotationType modifiers = none
access_by Interface modifiers = none

abbrev pub default_constructor_modifiers : Option TypeKind → TypeDecl → ℕ
default_constructor_modifiers around d = access_by d.kind (type_modifiers around d)

-- ---- all elements

abbrev pub member_modifiers : TypeKind → Member-F Member TypeDecl → ℕ
member_modifiers kind (Member-F.Field field) = field_modifiers kind field.modifiers
member_modifiers kind (Member-F.Method method) = method_modifiers kind method.modifiers
member_modifiers kind (Member-F.Constructor constructor) = constructor_modifiers kind constructor.modifiers
member_modifiers kind (Member-F.Constant constant) = constant_modifiers
member_modifiers kind (Member-F.Nested d) = type_modifiers (Some kind) d

unfoldable pub modifiers : Node → ℕ
modifiers (OfPackage info) = none
modifiers (Top d) = type_modifiers None d
modifiers (Inside kind member) = member_modifiers kind (out-Member member)
modifiers (OfTypeParam parameter) = none
modifiers (OfParam parameter) = parameter.modifiers
modifiers (DefaultConstructor around d) = default_constructor_modifiers around d
modifiers Values = enum_method_modifiers
modifiers ValueOf = enum_method_modifiers
modifiers ValueOfName = none
