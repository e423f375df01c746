-- The grammar of declarations (JLS 7.3 to 9.6), over symbols: what the phrases of each part are, and what they mean.
use Rattle.std.specs.Prelude.{ℕ, Bool, true, false, List, [], ◌∷◌, ◌++◌, Option, Some, None, is_some, map, option_map, codes}
use Rattle.decl_tree.specs.declared.type_text.TypeText.{TypeText, out-TypeText}
use Rattle.decl_tree.specs.declared.annotation.ValueText.{ValueText}
use Rattle.decl_tree.specs.declared.annotation.AnnotationText.{AnnotationText}
use Rattle.apt_base.specs.declared.around.Around.{Around}
use Rattle.decl_tree.specs.declared.type_text.BaseType.{BaseType}
use Rattle.decl_tree.specs.declared.compilation.Import.{Import}
use Rattle.decl_grammar.specs.declared.written.Modifiers.{Modifiers}
use Rattle.decl_grammar.specs.declared.written.TypeRest.{TypeRest}
use Rattle.decl_grammar.specs.declared.written.Declarator.{Declarator}
use Rattle.decl_grammar.specs.declared.written.ParamEnd.{ParamEnd}
use Rattle.decl_grammar.specs.declared.written.NameAt.{NameAt}
use Rattle.decl_grammar.specs.declared.written.ParamAt.{ParamAt}
use Rattle.decl_grammar.specs.declared.written.TypeParamAt.{TypeParamAt}
use Rattle.decl_grammar.specs.declared.written.MemberAt.{MemberAt}
use Rattle.decl_grammar.specs.declared.written.TypeAt.{TypeAt}
use Rattle.decl_grammar.specs.declared.written.Lines.{Lines, roll-Lines}
use Rattle.decl_grammar.specs.declared.symbol.Symbol.{Symbol}
use Rattle.decl_grammar.specs.Symbols.{at_interface, operator}
use Rattle.decl_grammar.specs.TokenNames as token
use Rattle.std.specs.List.{flat_map}
use Rattle.std.specs.Int.Bits.{bit_or}
use Rattle.decl_tree.specs.declared.type_text.PrimitiveKind.{PrimitiveKind}
use Rattle.decl_tree.specs.declared.type_text.NamedPart.{NamedPart}
use Rattle.decl_tree.specs.declared.declaration.TypeDecl.{TypeDecl}
use Rattle.decl_tree.specs.declared.declaration.Member.{Member}
use Rattle.decl_tree.specs.declared.member.Param.{Param}
use Rattle.decl_tree.specs.declared.member.TypeParam.{TypeParam}
use Rattle.decl_tree.specs.declared.declaration.TypeKind.{TypeKind}
use Rattle.decl_tree.specs.declared.compilation.ImportKind.{ImportKind}
use Rattle.decl_grammar.specs.declared.written.Params.{Params}
use Rattle.decl_grammar.specs.declared.written.Signature.{Signature}
use Rattle.decl_grammar.specs.declared.written.MemberRest.{MemberRest}
use Rattle.decl_grammar.specs.declared.written.Unmodified.{Unmodified}
use Rattle.decl_grammar.specs.Docs.{doc_text}
use Rattle.decl_grammar.specs.Constants.{named_part_of, type_of}
use Rattle.decl_grammar.specs.declared.written.MemberRest.TheVariants as rest_kind
use Rattle.decl_grammar.specs.declared.written.ParamEnd.TheVariants as param_end
use Rattle.decl_grammar.specs.declared.written.Unmodified.TheVariants as unmodified
use Rattle.decl_tree.specs.declared.compilation.ImportKind.TheVariants as import_kind
use Rattle.decl_tree.specs.declared.declaration.Member.TheVariants as member
use Rattle.decl_tree.specs.declared.declaration.TypeKind.TheVariants as kind
use Rattle.apt_base.specs.declared.around.Around.TheVariants as around
use Rattle.decl_tree.specs.declared.type_text.BaseType.TheVariants as base
use Rattle.decl_tree.specs.declared.type_text.PrimitiveKind.TheVariants as primitive
use Rattle.decl_grammar.specs.Form.{ParamRest, ImportRest, Form, defaulted, type_arguments, nested_type, plain_modifiers, static_word, import_rest, enum_rest, param_rest, first_rest, value_and_rest, terminal, pair, turn, maybe, many, either, seen, nest, over}
use Rattle.decl_grammar.specs.Types.{keyword, sign, behind, before, list_or_none, first_and_rest, name, name_at, name_chain, annotation, annotations, one_and_rest, no_values, silently, primitive_type, next_part, dim, base_type, annotated_class, type_params, optional_params, classes, Mark, bit_mark, no_modifiers, with_marks, optional_modifiers, type_modifiers, marked}
use Rattle.decl_grammar.specs.Expressions.{declarator_of, value_or_end}

-- Bodies, the arguments of enum constants and blocks of initialisation are passed over: there brackets stand in pairs, and all else is free.

-- ---- parameters (JLS 8.4.1)

unfoldable pub param_modifier : Form Mark
param_modifier = either (turn bit_mark (keyword token.final)) (turn marked annotation)

unfoldable pub param_modifiers : Form Modifiers
param_modifiers = turn (with_marks no_modifiers) (many param_modifier)

-- a parameter with this name and these brackets behind it
abbrev pub param_of : NameAt → List Around → Modifiers → BaseType → List Around → ParamAt
param_of n ds m of items =
    record { param = record { name = n.name; modifiers = m.bits; annotations = m.annotations; of = type_of of (ds ++ items) }; line = n.line }

-- no parameters, none of which takes any number of arguments
abbrev pub no_params : List ParamAt × Bool
no_params = ([], false)

abbrev pub params_or_none : Option (List ParamAt × Bool) → List ParamAt × Bool
params_or_none None = no_params
params_or_none (Some ps) = ps

-- a pair of brackets, and what stands behind it
abbrev pub in_array : ParamRest → ParamRest
in_array rest = (around.Array ∷ rest.0, rest.1)

-- the end of a parameter, and the parameters behind it
abbrev pub ended_with : ParamEnd → List ParamAt × Bool → ParamRest
ended_with e ps = ([], (e, ps))

abbrev pub ended_last : ParamEnd → ParamRest
ended_last e = ended_with e no_params

abbrev pub end_and_rest : ParamEnd × Option (List ParamAt × Bool) → ParamRest
end_and_rest v = ended_with v.0 (params_or_none v.1)

-- a parameter before others, from its parts: its type is its base in the brackets behind the name and those before it
abbrev pub param_ended : ParamEnd → Modifiers → BaseType → List Around → List ParamAt × Bool → List ParamAt × Bool
param_ended (param_end.Named n ds) m of items ps = (param_of n ds m of items ∷ ps.0, ps.1)
param_ended (param_end.AnyNumber n) m of items ps = (param_of n (around.Array ∷ []) m of items ∷ [], true)
param_ended param_end.Receiver m of items ps = ps

abbrev pub apply_rest : Modifiers × (BaseType × ParamRest) → List ParamAt × Bool
apply_rest v = param_ended v.1.1.1.0 v.0 v.1.0 v.1.1.0 v.1.1.1.1

-- BaseType ParamRest
abbrev pub based : Form ParamRest → Form (BaseType × ParamRest)
based rest = pair base_type rest

-- Modifiers BaseType ParamRest
unfoldable pub params_from : Form (List ParamAt × Bool)
params_from = turn apply_rest (pair param_modifiers (based (nest param_rest)))

-- , ParamsFrom
unfoldable pub next_params : Form (List ParamAt × Bool)
next_params = behind (sign token.comma) params_from

abbrev pub any_number : NameAt → ParamEnd
any_number n = param_end.AnyNumber n

-- ... Name
unfoldable pub varargs : Form ParamEnd
varargs = turn any_number (behind (sign token.ellipsis) name_at)

-- [ ] Rest
abbrev pub bracket_rest : Form ParamRest → Form ParamRest
bracket_rest rest = behind (sign token.open_bracket) (behind (sign token.close_bracket) (turn in_array rest))

-- Annotation { Annotation } BracketRest, or with Varargs: annotations of a type stand before brackets, or before the `...`
abbrev pub annotated_rest : Form ParamRest → Form ParamRest
annotated_rest rest = behind annotation (behind annotations (either (bracket_rest rest) (turn ended_last varargs)))

abbrev pub named_with : NameAt × List Around → ParamEnd
named_with v = param_end.Named v.0 v.1

-- Name { [ ] }
unfoldable pub named_end : Form ParamEnd
named_end = turn named_with (pair name_at (many dim))

-- behind the base of the type of a parameter
unfoldable pub param_rest_form : Form ParamRest
param_rest_form =
    either (bracket_rest (nest param_rest)) (either (annotated_rest (nest param_rest)) (either (turn ended_last varargs) (turn end_and_rest (pair named_end (maybe next_params)))))

abbrev pub receiver_end : Symbol → ParamEnd
receiver_end s = param_end.Receiver

-- this
unfoldable pub receiver : Form ParamEnd
receiver = turn receiver_end (keyword token.this)

-- [ ] { [ ] }
unfoldable pub some_dims : Form (List Around)
some_dims = turn first_and_rest (pair dim (many dim))

abbrev pub no_dims : Symbol → Option (List Around)
no_dims s = None

abbrev pub some_brackets : List Around → Option (List Around)
some_brackets ds = Some ds

-- . this: the name before it is that of a type around the receiver
unfoldable pub dot_this : Form (Option (List Around))
dot_this = turn no_dims (behind (sign token.dot) (keyword token.this))

unfoldable pub with_dims : Form (Option (List Around))
with_dims = turn some_brackets some_dims

-- the end of a first parameter from its name and the brackets behind it, none where it is that of the receiver
abbrev pub end_named : NameAt → Option (List Around) → ParamEnd
end_named n None = param_end.Receiver
end_named n (Some ds) = param_end.Named n ds

abbrev pub FirstBehind : Type 0
FirstBehind = Option (List Around) × (List ParamAt × Bool)

abbrev pub dims_and_rest : Option (List Around) × Option (List ParamAt × Bool) → FirstBehind
dims_and_rest v = (v.0, params_or_none v.1)

abbrev pub comma_first : List ParamAt × Bool → FirstBehind
comma_first ps = (Some [], ps)

abbrev pub alone_or : Option FirstBehind → FirstBehind
alone_or None = (Some [], no_params)
alone_or (Some v) = v

-- behind a name that is the parameter's own, or that of a type around the receiver
unfoldable pub behind_first_name : Form FirstBehind
behind_first_name =
    turn alone_or (maybe (either (turn dims_and_rest (pair dot_this (maybe next_params))) (either (turn dims_and_rest (pair with_dims (maybe next_params))) (turn comma_first next_params))))

abbrev pub first_named : NameAt × FirstBehind → ParamRest
first_named v = ended_with (end_named v.0 v.1.0) v.1.1

-- behind the base of the type of the first parameter, which may be the receiver
unfoldable pub first_rest_form : Form ParamRest
first_rest_form =
    either (bracket_rest (nest first_rest)) (either (annotated_rest (nest first_rest)) (either (turn ended_last varargs)
    (either (turn end_and_rest (pair receiver (maybe next_params))) (turn first_named (pair name_at behind_first_name)))))

-- of the first parameter the annotations stand before what tells whether it is the receiver, which has no `final`
abbrev pub FirstRest : Type 0
FirstRest = List AnnotationText → List ParamAt × Bool

abbrev pub annotated_only : List AnnotationText → Modifiers
annotated_only found = record { bits = 0; annotations = found }

abbrev pub final_and : List AnnotationText → Modifiers
final_and found = record { bits = 64; annotations = found }

abbrev pub final_first : List Mark × (BaseType × ParamRest) → FirstRest
final_first v found = apply_rest (with_marks (final_and found) v.0, v.1)

abbrev pub plain_first : BaseType × ParamRest → FirstRest
plain_first v found = apply_rest (annotated_only found, v)

unfoldable pub behind_annotations : Form FirstRest
behind_annotations = either (turn final_first (behind (keyword token.final) (pair (many param_modifier) (based (nest param_rest))))) (turn plain_first (based (nest first_rest)))

abbrev pub first_from : List AnnotationText × FirstRest → List ParamAt × Bool
first_from x = x.1 x.0

unfoldable pub first_params : Form (List ParamAt × Bool)
first_params = turn first_from (pair annotations behind_annotations)

abbrev pub params_of : List ParamAt × Bool → Params
params_of x = record { params = x.0; varargs = x.1 }

abbrev pub optional_first : Option (List ParamAt × Bool) → Params
optional_first o = params_of (params_or_none o)

-- ( [FirstParams] )
unfoldable pub params : Form Params
params = behind (sign token.open_parenthesis) (before (turn optional_first (maybe first_params)) (sign token.close_parenthesis))

-- ---- what stands behind the name of a method or a constructor (JLS 8.4, 8.8, 9.6.1)

-- throws ClassType { , ClassType }
unfoldable pub thrown : Form (List TypeText)
thrown = turn list_or_none (maybe (behind (keyword token.throws) classes))

-- a block, whatever it holds (JLS 14.2)
abbrev pub block : Form (Unit {0})
block = over (operator token.open_brace ∷ [])

unfoldable pub body : Form (Unit {0})
body = either block (turn silently (sign token.semicolon))

abbrev pub signature_of : Params → List Around → List TypeText → Option ValueText → Signature
signature_of ps ds ts v = record { params = ps; dims = ds; thrown = ts; default = v }

unfoldable pub method_signature : Form Signature
method_signature = turn (λ x. signature_of x.0 x.1.0 x.1.1 None) (pair params (pair (many dim) (before thrown body)))

unfoldable pub constructor_signature : Form Signature
constructor_signature = turn (λ x. signature_of x.0 [] x.1 None) (pair params (before thrown block))

abbrev pub no_default : Symbol → Option ValueText
no_default s = None

abbrev pub some_default : ValueText × Unit {0} → Option ValueText
some_default x = Some x.0

-- [default Value] ;
unfoldable pub element_end : Form (Option ValueText)
element_end = either (turn no_default (sign token.semicolon)) (turn some_default (behind (keyword token.default) (nest (value_and_rest defaulted))))

unfoldable pub element_signature : Form Signature
element_signature =
    turn (λ x. signature_of (params_of no_params) x.0 [] x.1) (behind (sign token.open_parenthesis) (behind (sign token.close_parenthesis) (pair (many dim) element_end)))

-- ---- fields (JLS 8.3): `Expressions` says what stands behind a `=`

-- { [ ] } [= Initialiser] { , Declarator } ;
unfoldable pub field_rest : Form (List Around × (Option ValueText × List Declarator))
field_rest = pair (many dim) value_or_end

-- ---- members behind their modifiers (JLS 8.1.6, 9.1.4, 9.6.1)

-- a member, once its type and its name are known
abbrev pub Named : Type 0
Named = TypeText → NameAt → Unmodified

abbrev pub fields_named : List Around × (Option ValueText × List Declarator) → Named
fields_named v of n = unmodified.Fields of (declarator_of n v.0 v.1.0 ∷ v.1.1)

abbrev pub method_named : Signature → Named
method_named s of n = unmodified.Method [] of n s

-- behind the name of a method or of fields
abbrev pub member_rest : Form Signature → Form Named
member_rest signature = either (turn method_named signature) (turn fields_named field_rest)

-- what may stand behind the name of a member
abbrev pub rest_form : MemberRest → Form Named
rest_form rest_kind.Any = member_rest method_signature
rest_form rest_kind.Method = turn method_named method_signature
rest_form rest_kind.Element = member_rest element_signature

-- behind the first name of a class type, up to the name of the member and what follows it
abbrev pub Typed : Type 0
Typed = NameAt → Unmodified

abbrev pub typed_as : Option (List TypeText) × (List NamedPart × (List Around × (NameAt × Named))) → Typed
typed_as v n = v.1.1.1.1 (type_of (base.Named (named_part_of n.name v.0 ∷ v.1.0)) v.1.1.0) v.1.1.1.0

unfoldable pub typed_member : MemberRest → Form Typed
typed_member rest = turn typed_as (pair (maybe (nest type_arguments)) (pair (many next_part) (pair (many dim) (pair name_at (rest_form rest)))))

abbrev pub constructed : Signature → Typed
constructed s n = unmodified.Constructor n.line [] s

-- what stands behind a first name: a constructor, whose name that was, or a member of a class type
unfoldable pub constructed_or : MemberRest → Form Typed
constructed_or rest = either (turn constructed constructor_signature) (typed_member rest)

-- with constructors or without
abbrev pub typed_form : Bool → MemberRest → Form Typed
typed_form true rest = constructed_or rest
typed_form false rest = typed_member rest

abbrev pub void_type : TypeText
void_type = type_of (base.Primitive primitive.Void) []

abbrev pub void_named : NameAt × Signature → Unmodified
void_named x = method_named x.1 void_type x.0

-- void Name Signature
unfoldable pub void_method : Form Unmodified
void_method = turn void_named (behind (keyword token.void) (pair name_at method_signature))

abbrev pub primitive_of_dims : PrimitiveKind × List Around → TypeText
primitive_of_dims x = type_of (base.Primitive x.0) x.1

abbrev pub primitive_named : TypeText × (NameAt × Named) → Unmodified
primitive_named x = x.1.1 x.0 x.1.0

-- PrimitiveType { [ ] } Name Rest
unfoldable pub primitive_member : MemberRest → Form Unmodified
primitive_member rest = turn primitive_named (pair (turn primitive_of_dims (pair primitive_type (many dim))) (pair name_at (rest_form rest)))

abbrev pub typed_named : NameAt × Typed → Unmodified
typed_named x = x.1 x.0

-- Name Rest
unfoldable pub named_member : Bool → MemberRest → Form Unmodified
named_member constructors rest = turn typed_named (pair name_at (typed_form constructors rest))

-- with other type parameters (JLS 8.4.4, 8.8.4)
abbrev pub with_type_params : List TypeParamAt → Unmodified → Unmodified
with_type_params ps unmodified.Nothing = unmodified.Nothing
with_type_params ps (unmodified.Fields of ds) = unmodified.Fields of ds
with_type_params ps (unmodified.Method qs of n s) = unmodified.Method ps of n s
with_type_params ps (unmodified.Constructor line qs s) = unmodified.Constructor line ps s
with_type_params ps (unmodified.Nested rest) = unmodified.Nested rest

-- behind annotations a method comes
unfoldable pub generic_method : Form Unmodified
generic_method = either void_method (either (primitive_member rest_kind.Method) (named_member false rest_kind.Method))

unfoldable pub annotated_method : Form Unmodified
annotated_method = behind annotation (behind annotations generic_method)

-- behind type parameters, with constructors or without
unfoldable pub generic_rest : Bool → Form Unmodified
generic_rest constructors = either annotated_method (either void_method (either (primitive_member rest_kind.Method) (named_member constructors rest_kind.Method)))

abbrev pub generic_of : List TypeParamAt × Unmodified → Unmodified
generic_of x = with_type_params x.0 x.1

-- TypeParams GenericRest
unfoldable pub generic : Bool → Form Unmodified
generic constructors = turn generic_of (pair type_params (generic_rest constructors))

-- ---- member lists

-- the text of a doc comment, where there is one
abbrev pub doc_of : Option (List ℕ) → Option (List ℕ)
doc_of raw = option_map doc_text raw

-- the doc comment before the first of some symbols
abbrev pub first_doc : List Symbol → Option (List ℕ)
first_doc [] = None
first_doc (s ∷ ss) = s.doc

abbrev pub plain_type_params : List TypeParamAt → List TypeParam
plain_type_params ps = map (λ (p : TypeParamAt). p.param) ps

abbrev pub plain_members : List MemberAt → List Member
plain_members ms = map (λ (x : MemberAt). x.member) ms

-- a declaration with this doc comment
abbrev pub declaration_of : Option (List ℕ) → Modifiers → TypeRest → TypeDecl
declaration_of doc m rest = record {
  kind = rest.kind;
  name = rest.name.name;
  modifiers = m.bits;
  annotations = m.annotations;
  doc = doc;
  parameters = plain_type_params rest.parameters;
  superclass = rest.superclass;
  interfaces = rest.interfaces;
  members = plain_members rest.members;
}

-- the lines of an element with these lines of its children, and of one without children
abbrev pub lines_with : ℕ → List Lines → Lines
lines_with n children = roll-Lines (record { line = n; children = children })

abbrev pub line_alone : ℕ → Lines
line_alone n = lines_with n []

abbrev pub type_param_lines : List TypeParamAt → List Lines
type_param_lines ps = map (λ (p : TypeParamAt). line_alone p.line) ps

abbrev pub param_lines : List ParamAt → List Lines
param_lines ps = map (λ (p : ParamAt). line_alone p.line) ps

abbrev pub member_lines : List MemberAt → List Lines
member_lines ms = map (λ (x : MemberAt). x.lines) ms

-- of a type: its name, its type parameters and its members
abbrev pub type_lines : TypeRest → Lines
type_lines rest = lines_with rest.name.line (type_param_lines rest.parameters ++ member_lines rest.members)

-- of a method or a constructor: its name, its type parameters and its parameters
abbrev pub executable_lines : ℕ → List TypeParamAt → Signature → Lines
executable_lines n ps s = lines_with n (type_param_lines ps ++ param_lines s.params.params)

-- a type with its doc comment and its lines
abbrev pub type_with : Option (List ℕ) → Modifiers → TypeRest → TypeAt
type_with doc m rest = record { declaration = declaration_of doc m rest; lines = type_lines rest }

abbrev pub declared : Option (List ℕ) → Modifiers → TypeRest → TypeAt
declared raw m rest = type_with (doc_of raw) m rest

-- brackets behind the name are around those of the type
abbrev pub in_dims : List Around → TypeText → TypeText
in_dims ds of = type_of (out-TypeText of).base (ds ++ (out-TypeText of).around)

abbrev pub member_at : Member → Lines → MemberAt
member_at m lines = record { member = m; lines = lines }

abbrev pub field_of : Option (List ℕ) → Modifiers → TypeText → Declarator → MemberAt
field_of doc m of d = member_at (member.Field (record {
  name = d.name.name;
  modifiers = m.bits;
  annotations = m.annotations;
  doc = doc;
  of = in_dims d.dims of;
  constant = d.constant;
})) (line_alone d.name.line)

abbrev pub plain_params : List ParamAt → List Param
plain_params ps = map (λ (p : ParamAt). p.param) ps

abbrev pub method_of : Option (List ℕ) → Modifiers → List TypeParamAt → TypeText → NameAt → Signature → MemberAt
method_of doc m ps of n s = member_at (member.Method (record {
  name = n.name;
  modifiers = m.bits;
  annotations = m.annotations;
  doc = doc;
  parameters = plain_type_params ps;
  result = in_dims s.dims of;
  arguments = plain_params s.params.params;
  varargs = s.params.varargs;
  thrown = s.thrown;
  default = s.default;
})) (executable_lines n.line ps s)

abbrev pub constructor_of : Option (List ℕ) → Modifiers → ℕ → List TypeParamAt → Signature → MemberAt
constructor_of doc m line ps s = member_at (member.Constructor (record {
  modifiers = m.bits;
  annotations = m.annotations;
  doc = doc;
  parameters = plain_type_params ps;
  arguments = plain_params s.params.params;
  varargs = s.params.varargs;
  thrown = s.thrown;
})) (executable_lines line ps s)

-- the members that a declaration with this doc comment gives
abbrev pub members_with : Option (List ℕ) → Modifiers → Unmodified → List MemberAt
members_with doc m unmodified.Nothing = []
members_with doc m (unmodified.Fields of ds) = map (field_of doc m of) ds
members_with doc m (unmodified.Method ps of n s) = method_of doc m ps of n s ∷ []
members_with doc m (unmodified.Constructor line ps s) = constructor_of doc m line ps s ∷ []
members_with doc m (unmodified.Nested rest) = member_at (member.Nested (declaration_of doc m rest)) (type_lines rest) ∷ []

abbrev pub members_of : Option (List ℕ) → Modifiers → Unmodified → List MemberAt
members_of raw m u = members_with (doc_of raw) m u

abbrev pub Modified : Type 0
Modified = Modifiers × Unmodified

abbrev pub bare : Unmodified → Modified
bare u = (no_modifiers, u)

abbrev pub nothing_here : Unit {0} → Modified
nothing_here v = (no_modifiers, unmodified.Nothing)

-- `static` stood before them
abbrev pub with_static : Modified → Modified
with_static x = (record { bits = bit_or 32 x.0.bits; annotations = x.0.annotations }, x.1)

-- behind a first `static`: an initialiser (JLS 8.7), or a member
unfoldable pub static_rest : Form Unmodified → Form Modified
static_rest f = either (turn nothing_here block) (turn with_static (pair optional_modifiers f))

unfoldable pub plain_modified : Form Unmodified → Form Modified
plain_modified f = pair (nest plain_modifiers) f

-- a member of a class with its modifiers; a `static` may begin an initialiser
abbrev pub class_modified : Form Unmodified → Form Modified
class_modified f = either (turn bare f) (either (plain_modified f) (behind (nest static_word) (static_rest f)))

abbrev pub modified : Form Unmodified → Form Modified
modified f = pair optional_modifiers f

abbrev pub no_member : {A : Type 0} → A → List MemberAt
no_member v = []

abbrev pub documented_members : Option (List ℕ) × Modified → List MemberAt
documented_members x = members_of x.0 x.1.0 x.1.1

abbrev pub member_from : Form Modified → Form (List MemberAt)
member_from f = turn documented_members (seen first_doc f)

unfoldable pub nested_member : Form Unmodified
nested_member = turn unmodified.Nested (nest nested_type)

-- a member of a class, with constructors, or of an interface
unfoldable pub unmodified_of : Bool → Form Unmodified
unmodified_of constructors =
    either nested_member (either void_method (either (primitive_member rest_kind.Any) (either (named_member constructors rest_kind.Any) (generic constructors))))

unfoldable pub annotation_unmodified : Form Unmodified
annotation_unmodified = either nested_member (either (primitive_member rest_kind.Element) (named_member false rest_kind.Element))

-- a member with its modifiers, by the kind of its type (JLS 8.1.7, 8.9.2, 9.1.5, 9.6.1)
unfoldable pub modified_form : TypeKind → Form Modified
modified_form kind.Enum = class_modified (unmodified_of true)
modified_form kind.Class = class_modified (unmodified_of true)
modified_form kind.AnnotationType = modified annotation_unmodified
modified_form kind.Interface = modified (unmodified_of false)

-- a class has initialisers too
abbrev pub or_block : TypeKind → Form (List MemberAt) → Form (List MemberAt)
or_block kind.Enum f = either (turn no_member block) f
or_block kind.Class f = either (turn no_member block) f
or_block kind.AnnotationType f = f
or_block kind.Interface f = f

unfoldable pub member_form : TypeKind → Form (List MemberAt)
member_form k = either (turn no_member (sign token.semicolon)) (or_block k (member_from (modified_form k)))

abbrev pub joined_lists : List (List MemberAt) → List MemberAt
joined_lists ms = flat_map (λ m. m) ms

-- ---- types (JLS 8.1, 8.9, 9.1, 9.6)

abbrev pub rest_of : TypeKind → NameAt → List TypeParamAt → Option TypeText → List TypeText → List MemberAt → TypeRest
rest_of k n ps above types ms = record { kind = k; name = n; parameters = ps; superclass = above; interfaces = types; members = ms }

-- { Members }
abbrev pub members_in : TypeKind → Form (List MemberAt)
members_in k = behind (sign token.open_brace) (before (turn joined_lists (many (member_form k))) (sign token.close_brace))

unfoldable pub superclass : Form (Option TypeText)
superclass = maybe (behind (keyword token.extends) annotated_class)

unfoldable pub implemented : Form (List TypeText)
implemented = turn list_or_none (maybe (behind (keyword token.implements) classes))

unfoldable pub extended : Form (List TypeText)
extended = turn list_or_none (maybe (behind (keyword token.extends) classes))

unfoldable pub class_form : Form TypeRest
class_form =
    turn (λ x. rest_of kind.Class x.0 x.1.0 x.1.1.0 x.1.1.1.0 x.1.1.1.1)
    (behind (keyword token.class) (pair name_at (pair optional_params (pair superclass (pair implemented (members_in kind.Class))))))

unfoldable pub interface_form : Form TypeRest
interface_form =
    turn (λ x. rest_of kind.Interface x.0 x.1.0 None x.1.1.0 x.1.1.1)
    (behind (keyword token.interface) (pair name_at (pair optional_params (pair extended (members_in kind.Interface)))))

unfoldable pub annotation_form : Form TypeRest
annotation_form =
    turn (λ x. rest_of kind.AnnotationType x.0 [] None [] x.1)
    (behind (terminal (at_interface ∷ [])) (behind (keyword token.interface) (pair name_at (members_in kind.AnnotationType))))

-- whether something in brackets of this sort stands here
abbrev pub is_there : {A : Type 0} → Option A → Bool
is_there x = is_some x

unfoldable pub optional_over : ℕ → Form Bool
optional_over sort = turn is_there (maybe (over (sort ∷ [])))

-- the annotations of an enum constant, its name, and whether it has a body
abbrev pub ConstantPart : Type 0
ConstantPart = List AnnotationText × (NameAt × Bool)

abbrev pub constant_part_of : List AnnotationText × (NameAt × (Bool × Bool)) → ConstantPart
constant_part_of x = (x.0, (x.1.0, x.1.1.1))

-- Annotations Name [Arguments] [Body]: arguments and a body are passed over (JLS 8.9.1)
unfoldable pub constant_part : Form ConstantPart
constant_part = turn constant_part_of (pair annotations (pair name_at (pair (optional_over (operator token.open_parenthesis)) (optional_over (operator token.open_brace)))))

abbrev pub constant_of : Option (List ℕ) × ConstantPart → MemberAt
constant_of x =
    member_at (member.Constant (record { name = x.1.1.0.name; annotations = x.1.0; doc = doc_of x.0; body = x.1.1.1 })) (line_alone x.1.1.0.line)

unfoldable pub constant : Form MemberAt
constant = turn constant_of (seen first_doc constant_part)

-- Constant [EnumRest]
unfoldable pub some_constants : Form (List MemberAt)
some_constants = turn one_and_rest (pair constant (maybe (nest enum_rest)))

-- , [SomeConstants]: behind the last constant a `,` may stand
unfoldable pub enum_rest_form : Form (List MemberAt)
enum_rest_form = behind (sign token.comma) (turn list_or_none (maybe some_constants))

-- SomeConstants, or a `,` alone
unfoldable pub constant_list : Form (List MemberAt)
constant_list = either some_constants (turn no_values (sign token.comma))

unfoldable pub constants : Form (List MemberAt)
constants = turn list_or_none (maybe constant_list)

-- [; Members]
unfoldable pub enum_members : Form (List MemberAt)
enum_members = turn list_or_none (maybe (behind (sign token.semicolon) (turn joined_lists (many (member_form kind.Enum)))))

unfoldable pub enum_form : Form TypeRest
enum_form =
    turn (λ x. rest_of kind.Enum x.0 [] None x.1.0 (x.1.1.0 ++ x.1.1.1))
    (behind (keyword token.enum) (pair name_at (pair implemented (behind (sign token.open_brace) (pair constants (before enum_members (sign token.close_brace)))))))

unfoldable pub type_rest : Form TypeRest
type_rest = either class_form (either interface_form (either annotation_form enum_form))

-- ---- compilation units (JLS 7.3 to 7.6)

abbrev pub import_as : ImportKind → List ℕ → Import
import_as k n = record { kind = k; name = n }

abbrev pub static_import : Import → Import
static_import i = import_as (static_kind i.kind) i.name
  where
    static_kind : ImportKind → ImportKind
    static_kind import_kind.Single = import_kind.StaticSingle
    static_kind import_kind.OnDemand = import_kind.StaticOnDemand
    static_kind import_kind.StaticSingle = import_kind.StaticSingle
    static_kind import_kind.StaticOnDemand = import_kind.StaticOnDemand

abbrev pub with_dot : List ℕ → List ℕ → List ℕ
with_dot n m = (n ++ codes ".") ++ m

abbrev pub single_or : Option ImportRest → ImportRest
single_or None n = import_as import_kind.Single n
single_or (Some rest) n = rest n

abbrev pub deeper_import : List ℕ × Option ImportRest → ImportRest
deeper_import x = λ n. single_or x.1 (with_dot n x.0)

abbrev pub on_demand : Symbol → ImportRest
on_demand s = λ n. import_as import_kind.OnDemand n

abbrev pub no_name : Symbol → Option (List ℕ)
no_name s = None

-- . Name, or . *
unfoldable pub import_step : Form (Option (List ℕ))
import_step = behind (sign token.dot) (either (turn (λ n. Some n) name) (turn no_name (sign token.star)))

-- . Name [ImportRest], or . *
unfoldable pub import_rest_form : Form ImportRest
import_rest_form = behind (sign token.dot) (either (turn deeper_import (pair name (maybe (nest import_rest)))) (turn on_demand (sign token.star)))

unfoldable pub import_named : Form Import
import_named = turn (λ x. single_or x.1 x.0) (pair name (maybe (nest import_rest)))

-- static Name ImportRest
unfoldable pub import_static : Form Import
import_static = behind (keyword token.static) (turn (λ x. static_import (x.1 x.0)) (pair name (nest import_rest)))

unfoldable pub import_form : Form Import
import_form = behind (keyword token.import) (before (either import_named import_static) (sign token.semicolon))

-- the name of the package, with the line of the `package`
abbrev pub package_named : Symbol × List ℕ → NameAt
package_named x = record { name = x.1; line = x.0.line }

unfoldable pub package_form : Form NameAt
package_form = turn package_named (pair (keyword token.«package») (before name_chain (sign token.semicolon)))

abbrev pub top_declared : Option (List ℕ) × (Modifiers × TypeRest) → Option TypeAt
top_declared x = Some (declared x.0 x.1.0 x.1.1)

abbrev pub no_type : Symbol → Option TypeAt
no_type s = None

-- Modifiers TypeRest
unfoldable pub modified_type : Form (Modifiers × TypeRest)
modified_type = pair type_modifiers type_rest

-- a type with its modifiers, or a `;` (JLS 7.6)
unfoldable pub top_type : Form (Option TypeAt)
top_type = either (turn no_type (sign token.semicolon)) (turn top_declared (seen first_doc modified_type))

-- what an ordinary file declares: its package, its imports and its types
abbrev pub Ordinary : Type 0
Ordinary = Option NameAt × (List Import × List (Option TypeAt))

unfoldable pub ordinary : Form Ordinary
ordinary = pair (maybe package_form) (pair (many import_form) (many top_type))

-- Annotations package Name { . Name } ; (JLS 7.4.1)
unfoldable pub package_part : Form (List AnnotationText × NameAt)
package_part = pair annotations package_form

-- the same with its doc comment
abbrev pub documented_package : Option (List ℕ) × (List AnnotationText × NameAt) → Option (List ℕ) × (List AnnotationText × NameAt)
documented_package x = (doc_of x.0, x.1)

unfoldable pub annotated_package : Form (Option (List ℕ) × (List AnnotationText × NameAt))
annotated_package = turn documented_package (seen first_doc package_part)

-- what a file `package-info.java` declares
abbrev pub Info : Type 0
Info = Option (Option (List ℕ) × (List AnnotationText × NameAt)) × (List Import × Unit {0})

unfoldable pub semicolon : Form Symbol
semicolon = sign token.semicolon

-- a package with annotations, imports, and no types
unfoldable pub package_info : Form Info
package_info = pair (maybe annotated_package) (pair (many import_form) (turn silently (many semicolon)))
