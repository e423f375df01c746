-- The reader of each form of a unit, for the contracts of the functions that read. What they read is defined by the spelling and by what is legal.
use Rattle.std.specs.Prelude.{ℕ, zero, suc, ◌+◌, Bool, true, false, ◌==◌, List, [], ◌∷◌, length, Option, Some, None, nat_le, if◌then◌else◌}
use Rattle.apt_base.specs.Fields.{◌>>=◌, u8_next, u16_next, bool_next, text_next}
use Rattle.apt_base.specs.Forms.{Reader, none_next, then_by, ◌>>◌, mapped, checked, numbered, tagged, opt_next, list_next}
use Rattle.decl_syntax.specs.Numbers.{primitive_of, kind_of, import_of}
use Rattle.decl_tree.specs.Legal.{is_modifiers, are_few, children, default_constructors, enum_methods, package_start}
use Rattle.apt_base.specs.declared.around.Around.{Around}
use Rattle.apt_base.specs.declared.around.Around.TheVariants as around
use Rattle.apt_base.specs.Limits.{max_depth, max_name_bytes}
use Rattle.decl_tree.specs.declared.type_text.BaseType.{BaseType}
use Rattle.decl_tree.specs.declared.type_text.BaseType.TheVariants as base
use Rattle.decl_tree.specs.declared.type_text.NamedPart.{NamedPart, roll-NamedPart}
use Rattle.decl_tree.specs.declared.type_text.TypeText.{TypeText, roll-TypeText}
use Rattle.decl_syntax.specs.declared.type_reading.BaseKind.{BaseKind}
use Rattle.decl_syntax.specs.declared.type_reading.BaseKind.TheVariants as of
use Rattle.decl_syntax.specs.declared.type_reading.Step.{Step}
use Rattle.decl_syntax.specs.declared.type_reading.Step.TheVariants as step
use Rattle.decl_syntax.specs.declared.type_reading.Opening.{Opening}
use Rattle.decl_syntax.specs.declared.member_reading.Heading.{Heading}
use Rattle.decl_syntax.specs.declared.member_reading.Signature.{Signature}
use Rattle.decl_syntax.specs.declared.member_reading.ConstructorHeading.{ConstructorHeading}
use Rattle.decl_syntax.specs.declared.unit_reading.TypeHeading.{TypeHeading}
use Rattle.decl_syntax.specs.declared.unit_reading.TypeHead.{TypeHead}
use Rattle.decl_tree.specs.declared.annotation.ValueText.{ValueText}
use Rattle.decl_tree.specs.declared.annotation.ValueText.TheVariants as value
use Rattle.decl_tree.specs.declared.annotation.AnnotationText.{AnnotationText, roll-AnnotationText}
use Rattle.decl_tree.specs.declared.annotation.ElementValuePair.{ElementValuePair}
use Rattle.decl_tree.specs.declared.member.TypeParam.{TypeParam}
use Rattle.decl_tree.specs.declared.member.Param.{Param}
use Rattle.decl_tree.specs.declared.member.FieldDecl.{FieldDecl}
use Rattle.decl_tree.specs.declared.member.MethodDecl.{MethodDecl}
use Rattle.decl_tree.specs.declared.member.ConstructorDecl.{ConstructorDecl}
use Rattle.decl_tree.specs.declared.member.ConstantDecl.{ConstantDecl}
use Rattle.decl_tree.specs.declared.declaration.TypeKind.{TypeKind}
use Rattle.decl_tree.specs.declared.declaration.Member.{Member}
use Rattle.decl_tree.specs.declared.declaration.Member.TheVariants as member
use Rattle.decl_tree.specs.declared.declaration.TypeDecl.{TypeDecl}
use Rattle.decl_tree.specs.declared.compilation.ImportKind.{ImportKind}
use Rattle.decl_tree.specs.declared.compilation.Import.{Import}
use Rattle.decl_tree.specs.declared.compilation.Body.{Body}
use Rattle.decl_tree.specs.declared.compilation.Body.TheVariants.{Declared, Info}
use Rattle.decl_tree.specs.declared.compilation.UnitText.{UnitText}

abbrev pub modifiers_next : Reader ℕ
modifiers_next = checked is_modifiers u16_next

-- ---- types

-- the wildcard with this number, behind which a bound follows or none
abbrev pub wildcard_of : ℕ × Bool → Option Step
wildcard_of (n, false) = if n == 0 then Some (step.Base of.Wildcard) else None
wildcard_of (n, true) = if n == 1 then Some (step.Around around.Extends) else if n == 2 then Some (step.Around around.Super) else None

abbrev pub wildcard_next : Reader Step
wildcard_next bytes = do
  wildcard ← (u8_next >> bool_next) bytes
  next ← wildcard_of wildcard.0
  Some (next, wildcard.1)

abbrev pub step_choice : ℕ → Reader Step
step_choice n bytes =
    if n == 0 then Some (step.Base of.Primitive, bytes) else if n == 1 then Some (step.Base of.Named, bytes)
    else if n == 2 then Some (step.Around around.Array, bytes) else if n == 3 then wildcard_next bytes else None

-- one thing that stands around a base, or the base's kind
unfoldable pub step_next : Reader Step
step_next = tagged step_choice

-- a base of this kind, of which the kind is read
abbrev pub opens : BaseKind → List ℕ → Option (Opening × List ℕ)
opens kind rest = Some (record { around = []; kind = kind }, rest)

-- what is read, with one more around it
abbrev pub outside : Around → Option (Opening × List ℕ) → Option (Opening × List ℕ)
outside item read = do
  opening ← read
  Some (record { around = item ∷ opening.0.around; kind = opening.0.kind }, opening.1)

-- all that stands around a base, and the base's kind: 0 is a primitive type, 1 a named one, 2 `[]`, 3 0 0 `?`, 3 1 1 `? extends`, 3 2 1 `? super`
unfoldable pub opening_next : Reader Opening
opening_next (zero ∷ rest) = opens of.Primitive rest
opening_next (suc zero ∷ rest) = opens of.Named rest
opening_next (suc (suc zero) ∷ rest) = outside around.Array (opening_next rest)
opening_next (suc (suc (suc zero)) ∷ zero ∷ zero ∷ rest) = opens of.Wildcard rest
opening_next (suc (suc (suc zero)) ∷ suc zero ∷ suc zero ∷ rest) = outside around.Extends (opening_next rest)
opening_next (suc (suc (suc zero)) ∷ suc (suc zero) ∷ suc zero ∷ rest) = outside around.Super (opening_next rest)
opening_next _ = None

abbrev pub part_of : List ℕ × Option (List TypeText) → NamedPart
part_of (name, arguments) = roll-NamedPart (record { name = name; arguments = arguments })

unfoldable pub part_in : Reader TypeText → Reader NamedPart
part_in inside = mapped part_of (text_next >> opt_next (list_next inside))

-- the base behind its kind
unfoldable pub base_in : Reader TypeText → BaseKind → Reader BaseType
base_in inside of.Primitive bytes = mapped base.Primitive (numbered primitive_of) bytes
base_in inside of.Named bytes = mapped base.Named (list_next (part_in inside)) bytes
base_in inside of.Wildcard bytes = Some (base.Wildcard, bytes)

abbrev pub type_with : Opening → BaseType → TypeText
type_with opening base = roll-TypeText (record { around = opening.around; base = base })

unfoldable pub type_in : Reader TypeText → Reader TypeText
type_in inside bytes = do
  opening ← opening_next bytes
  base ← base_in inside opening.0.kind opening.1
  Some (type_with opening.0 base.0, base.1)

-- a type that opens one more
unfoldable pub inside_next : ℕ → Reader TypeText
inside_next zero = none_next
inside_next (suc room) = type_in (inside_next room)

unfoldable pub type_next : ℕ → Reader TypeText
type_next room = type_in (inside_next room)

-- ---- values and annotations

abbrev pub pair_of : List ℕ × ValueText → ElementValuePair
pair_of (name, value) = record { name = name; value = value }

unfoldable pub pair_in : Reader ValueText → Reader ElementValuePair
pair_in value = mapped pair_of (text_next >> value)

abbrev pub annotation_of : List ℕ × List ElementValuePair → AnnotationText
annotation_of (name, values) = roll-AnnotationText (record { name = name; values = values })

unfoldable pub annotation_in : Reader ValueText → Reader AnnotationText
annotation_in value = mapped annotation_of (text_next >> list_next (pair_in value))

abbrev pub plain_choice : ℕ → Reader ValueText
plain_choice n =
    if n == 0 then mapped value.Literal text_next
    else if n == 4 then mapped value.Chain text_next
    else none_next

unfoldable pub plain_next : Reader ValueText
plain_next = tagged plain_choice

-- two items or more
abbrev pub are_two : List ValueText → Bool
are_two items = nat_le 2 (length items)

abbrev pub value_choice : Reader TypeText → Reader ValueText → ℕ → Reader ValueText
value_choice of inner n =
    if n == 0 then mapped value.Literal text_next
    else if n == 1 then mapped value.Negated text_next
    else if n == 2 then mapped value.Joined (checked are_two (list_next plain_next))
    else if n == 3 then mapped value.Class of
    else if n == 4 then mapped value.Chain text_next
    else if n == 5 then mapped value.Array (list_next inner)
    else if n == 6 then mapped value.Nested (annotation_in inner)
    else if n == 7 then mapped value.Other text_next
    else none_next

unfoldable pub value_in : Reader TypeText → Reader ValueText → Reader ValueText
value_in of inner = tagged (value_choice of inner)

-- a value opens itself
unfoldable pub value_next : ℕ → Reader ValueText
value_next zero = none_next
value_next (suc room) = value_in (type_next room) (value_next room)

unfoldable pub annotation_next : ℕ → Reader AnnotationText
annotation_next room = annotation_in (value_next room)

-- ---- members

abbrev pub type_param_of : (List ℕ × List AnnotationText) × List TypeText → TypeParam
type_param_of ((name, annotations), bounds) = record { name = name; annotations = annotations; bounds = bounds }

unfoldable pub type_param_next : ℕ → Reader TypeParam
type_param_next room = mapped type_param_of (text_next >> list_next (annotation_next room) >> list_next (type_next room))

abbrev pub param_of : ((List ℕ × ℕ) × List AnnotationText) × TypeText → Param
param_of (((name, modifiers), annotations), of) = record { name = name; modifiers = modifiers; annotations = annotations; of = of }

unfoldable pub param_next : ℕ → Reader Param
param_next room = mapped param_of (text_next >> modifiers_next >> list_next (annotation_next room) >> type_next room)

-- how a field or a method begins
abbrev pub heading_of : ((List ℕ × ℕ) × List AnnotationText) × Option (List ℕ) → Heading
heading_of (((name, modifiers), annotations), doc) = record { name = name; modifiers = modifiers; annotations = annotations; doc = doc }

unfoldable pub heading_next : ℕ → Reader Heading
heading_next room = mapped heading_of (text_next >> modifiers_next >> list_next (annotation_next room) >> opt_next text_next)

abbrev pub field_of : (Heading × TypeText) × Option ValueText → FieldDecl
field_of ((heading, of), constant) =
    record { name = heading.name; modifiers = heading.modifiers; annotations = heading.annotations; doc = heading.doc; of = of; constant = constant }

unfoldable pub field_next : ℕ → Reader FieldDecl
field_next room = mapped field_of (heading_next room >> type_next room >> opt_next (value_next room))

-- what stands before the parameters of a method
abbrev pub signature_of : (Heading × List TypeParam) × TypeText → Signature
signature_of ((heading, parameters), result) = record { heading = heading; parameters = parameters; result = result }

unfoldable pub signature_next : ℕ → Reader Signature
signature_next room = mapped signature_of (heading_next room >> list_next (type_param_next room) >> type_next room)

abbrev pub method_of : (((Signature × List Param) × Bool) × List TypeText) × Option ValueText → MethodDecl
method_of ((((signature, arguments), varargs), thrown), default) =
    record { name = signature.heading.name; modifiers = signature.heading.modifiers; annotations = signature.heading.annotations; doc = signature.heading.doc; parameters = signature.parameters; result = signature.result; arguments = arguments; varargs = varargs; thrown = thrown; default = default }

abbrev pub method_is_small : MethodDecl → Bool
method_is_small m = are_few (length m.parameters + length m.arguments)

unfoldable pub method_next : ℕ → Reader MethodDecl
method_next room =
    checked method_is_small (mapped method_of (signature_next room >> list_next (param_next room) >> bool_next >> list_next (type_next room) >> opt_next (value_next room)))

-- what stands before the parameters of a constructor
abbrev pub constructor_heading_of : ((ℕ × List AnnotationText) × Option (List ℕ)) × List TypeParam → ConstructorHeading
constructor_heading_of (((modifiers, annotations), doc), parameters) = record { modifiers = modifiers; annotations = annotations; doc = doc; parameters = parameters }

unfoldable pub constructor_heading_next : ℕ → Reader ConstructorHeading
constructor_heading_next room =
    mapped constructor_heading_of (modifiers_next >> list_next (annotation_next room) >> opt_next text_next >> list_next (type_param_next room))

abbrev pub constructor_of : ((ConstructorHeading × List Param) × Bool) × List TypeText → ConstructorDecl
constructor_of (((heading, arguments), varargs), thrown) =
    record { modifiers = heading.modifiers; annotations = heading.annotations; doc = heading.doc; parameters = heading.parameters; arguments = arguments; varargs = varargs; thrown = thrown }

abbrev pub constructor_is_small : ConstructorDecl → Bool
constructor_is_small c = are_few (length c.parameters + length c.arguments)

unfoldable pub constructor_next : ℕ → Reader ConstructorDecl
constructor_next room =
    checked constructor_is_small (mapped constructor_of (constructor_heading_next room >> list_next (param_next room) >> bool_next >> list_next (type_next room)))

abbrev pub constant_of : ((List ℕ × List AnnotationText) × Option (List ℕ)) × Bool → ConstantDecl
constant_of (((name, annotations), doc), body) = record { name = name; annotations = annotations; doc = doc; body = body }

unfoldable pub constant_next : ℕ → Reader ConstantDecl
constant_next room = mapped constant_of (text_next >> list_next (annotation_next room) >> opt_next text_next >> bool_next)

-- ---- declarations

abbrev pub ends_in_time : ℕ → List ℕ → Bool
ends_in_time start name = nat_le (start + length name) max_name_bytes

abbrev pub canonical_next : ℕ → Reader (List ℕ)
canonical_next start = checked (ends_in_time start) text_next

abbrev pub member_choice : ℕ → Reader TypeDecl → ℕ → Reader Member
member_choice room nested n =
    if n == 0 then mapped member.Field (field_next room)
    else if n == 1 then mapped member.Method (method_next room)
    else if n == 2 then mapped member.Constructor (constructor_next room)
    else if n == 3 then mapped member.Constant (constant_next room)
    else if n == 4 then mapped member.Nested nested
    else none_next

unfoldable pub member_in : ℕ → Reader TypeDecl → Reader Member
member_in room nested = tagged (member_choice room nested)

-- how a declaration begins
abbrev pub type_heading_of : (((TypeKind × List ℕ) × ℕ) × List AnnotationText) × Option (List ℕ) → TypeHeading
type_heading_of ((((kind, name), modifiers), annotations), doc) = record { kind = kind; name = name; modifiers = modifiers; annotations = annotations; doc = doc }

unfoldable pub type_heading_next : ℕ → ℕ → Reader TypeHeading
type_heading_next room start =
    mapped type_heading_of (numbered kind_of >> canonical_next start >> modifiers_next >> list_next (annotation_next room) >> opt_next text_next)

-- what stands before the members
abbrev pub head_of : ((TypeHeading × List TypeParam) × Option TypeText) × List TypeText → TypeHead
head_of (((heading, parameters), superclass), interfaces) = record { heading = heading; parameters = parameters; superclass = superclass; interfaces = interfaces }

unfoldable pub head_next : ℕ → ℕ → Reader TypeHead
head_next room start =
    mapped head_of (type_heading_next room start >> list_next (type_param_next room) >> opt_next (type_next room) >> list_next (type_next room))

abbrev pub members_start : ℕ → TypeHead → ℕ
members_start start head = start + length head.heading.name + 1

abbrev pub declaration_of : TypeHead × List Member → TypeDecl
declaration_of (head, members) =
    record { kind = head.heading.kind; name = head.heading.name; modifiers = head.heading.modifiers; annotations = head.heading.annotations; doc = head.heading.doc; parameters = head.parameters; superclass = head.superclass; interfaces = head.interfaces; members = members }

abbrev pub declaration_is_small : TypeDecl → Bool
declaration_is_small d = are_few (children d)

unfoldable pub declaration_in : (ℕ → Reader TypeDecl) → ℕ → ℕ → Reader TypeDecl
declaration_in nested room start =
    checked declaration_is_small (mapped declaration_of (then_by (head_next room start) (λ head. list_next (member_in room (nested (members_start start head))))))

-- a declaration that is nested in one with this much room
unfoldable pub inside_declaration_next : ℕ → ℕ → Reader TypeDecl
inside_declaration_next zero start = none_next
inside_declaration_next (suc room) start = declaration_in (inside_declaration_next room) room start

unfoldable pub declaration_next : ℕ → ℕ → Reader TypeDecl
declaration_next room start = declaration_in (inside_declaration_next room) room start

-- the members of a declaration with this much room, whose names begin with this many bytes
abbrev pub members_next : ℕ → ℕ → Reader (List Member)
members_next room start = list_next (member_in room (inside_declaration_next room start))

-- how many children a type of this kind has, with this many type parameters and these members, the implicit ones counted
abbrev pub children_of : TypeKind → ℕ → List Member → ℕ
children_of kind parameters members = parameters + length members + default_constructors kind members + enum_methods kind

-- ---- units

abbrev pub import_with : ImportKind × List ℕ → Import
import_with (kind, name) = record { kind = kind; name = name }

unfoldable pub import_next : Reader Import
import_next = mapped import_with (numbered import_of >> text_next)

abbrev pub info_of : List AnnotationText × Option (List ℕ) → Body
info_of (annotations, doc) = Info annotations doc

abbrev pub body_choice : ℕ → ℕ → ℕ → Reader Body
body_choice room start n =
    if n == 0 then mapped Declared (declaration_next room start)
    else if n == 1 then mapped info_of (list_next (annotation_next room) >> opt_next text_next)
    else none_next

unfoldable pub body_next : ℕ → ℕ → Reader Body
body_next room start = tagged (body_choice room start)

-- what stands before the body
abbrev pub Front : Type 0
Front = (List ℕ × List Import) × List (List ℕ)

unfoldable pub front_of_unit_next : Reader Front
front_of_unit_next = canonical_next 0 >> list_next import_next >> list_next text_next

abbrev pub body_start : Front → ℕ
body_start ((name, imports), siblings) = package_start name

abbrev pub unit_of : Front × Body → UnitText
unit_of (((name, imports), siblings), body) = record { «package» = name; imports = imports; siblings = siblings; body = body }

unfoldable pub unit_next : Reader UnitText
unit_next = mapped unit_of (then_by front_of_unit_next (λ front. body_next max_depth (body_start front)))

-- a unit, and nothing behind it
unfoldable pub whole_unit : List ℕ → Option UnitText
whole_unit bytes = do
  unit ← unit_next bytes
  if length unit.1 == 0 then Some unit.0 else None
