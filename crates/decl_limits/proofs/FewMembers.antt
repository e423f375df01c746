-- A member has at least as many separators as it gives items, with those of the children of their own that have one: the fields of a declaration have a `,` each and a `;`, and all else gives one item and ends with a `;` or a `}`.
use Rattle.std.proofs.Common.{◌≡◌, ℕ, suc, ◌+◌, ◌≤◌, map, sym, Bool, true, false, List, [], ◌∷◌, Option, length, refl, ap, ◌∙◌, arith, length-append}
use Rattle.std.specs.List.{sum_by}
use Rattle.std.proofs.lemmas.List.Sums.{sum_by-cons}
use Rattle.decl_tree.specs.declared.declaration.Member.{Member, roll-Member, out-Member, out-roll-Member}
use Rattle.decl_tree.specs.declared.declaration.Member.TheOpen.{Member-F}
use Rattle.decl_tree.specs.declared.declaration.Member.TheVariants as member
use Rattle.decl_tree.specs.declared.declaration.TypeDecl.{TypeDecl}
use Rattle.decl_tree.specs.declared.member.ConstructorDecl.{ConstructorDecl}
use Rattle.decl_tree.specs.declared.member.FieldDecl.{FieldDecl}
use Rattle.decl_tree.specs.declared.member.MethodDecl.{MethodDecl}
use Rattle.decl_tree.specs.declared.type_text.TypeText.{TypeText}
use Rattle.decl_tree.specs.declared.type_text.BaseType.TheVariants as base
use Rattle.decl_tree.specs.declared.declaration.TypeKind.{TypeKind}
use Rattle.decl_tree.specs.declared.declaration.TypeKind.TheVariants as kind
use Rattle.decl_grammar.specs.declared.symbol.Symbol.{Symbol}
use Rattle.decl_grammar.specs.declared.written.MemberAt.{MemberAt}
use Rattle.decl_grammar.specs.declared.written.MemberRest.{MemberRest}
use Rattle.decl_grammar.specs.declared.written.MemberRest.TheVariants as rest_kind
use Rattle.decl_grammar.specs.declared.written.Modifiers.{Modifiers}
use Rattle.decl_grammar.specs.declared.written.Declarator.{Declarator}
use Rattle.decl_grammar.specs.declared.written.NameAt.{NameAt}
use Rattle.decl_grammar.specs.declared.written.ParamAt.{ParamAt}
use Rattle.decl_grammar.specs.declared.written.TypeParamAt.{TypeParamAt}
use Rattle.decl_grammar.specs.declared.written.Unmodified.{Unmodified}
use Rattle.decl_grammar.specs.declared.written.Signature.{Signature}
use Rattle.decl_grammar.specs.declared.written.Unmodified.TheVariants as unmodified
use Rattle.decl_grammar.specs.TokenNames as token
use Rattle.decl_grammar.specs.Form.{Form, type_arguments, plain_modifiers, static_word, pair, turn, maybe, many, nest, Is}
use Rattle.decl_grammar.specs.Constants.{named_part_of, type_of}
use Rattle.decl_grammar.specs.Types.{keyword, sign, silently, name_at, next_part, primitive_type, dim, annotation, annotations, optional_modifiers}
use Rattle.decl_grammar.specs.Grammar.{primitive_of_dims, thrown, block, body, declaration_of, in_dims, member_at, type_lines, plain_type_params, plain_params, method_of, constructor_of, Named, Typed, doc_of, first_doc, field_of, method_signature, constructor_signature, element_signature, method_named, fields_named, field_rest, member_rest, rest_form, typed_member, constructed, constructed_or, typed_form, void_named, void_method, primitive_member, named_member, with_type_params, generic_of, generic_method, annotated_method, generic_rest, generic, Modified, bare, nothing_here, with_static, static_rest, plain_modified, class_modified, modified, no_member, documented_members, members_of, member_from, nested_member, unmodified_of, annotation_unmodified, modified_form, or_block, member_form, joined_lists}
use Rattle.decl_grammar.specs.Rule.{WholeAt}
use Rattle.decl_limits.proofs.EvenForms.{even}
use Rattle.decl_limits.proofs.Counted.{AtLeast, at-least, none, one, in-braces, weaker, in-pair, in-turn, in-behind, in-before, in-either, in-row, in-seen}
use Rattle.decl_limits.specs.Children.{own_children}
use Rattle.decl_limits.proofs.Scans.{Adds, adds-less, adds-both}
use Rattle.decl_limits.proofs.FewFields.{value-fewer}
use Rattle.decl_limits.proofs.FewDefaults.{element-end-least}
use Rattle.decl_limits.proofs.ClosedTypes.{type-closed}
use Rattle.decl_limits.proofs.FewParams.{further, further-few, further-map, type-params-least, params-least}

-- the children of a method or a constructor, but the first type parameter and the first parameter
abbrev further_children : Member-F Member TypeDecl → ℕ
further_children (Member-F.Method method) = further method.parameters + further method.arguments
further_children (Member-F.Constructor constructor) = further constructor.parameters + further constructor.arguments
further_children _ = 0

-- how many items a member gives, with those children of its own
abbrev items_of : Unmodified → ℕ
items_of unmodified.Nothing = 0
items_of (unmodified.Fields of ds) = length ds
items_of (unmodified.Method ps of n s) = suc (further ps + further s.params.params)
items_of (unmodified.Constructor line ps s) = suc (further ps + further s.params.params)
items_of (unmodified.Nested rest) = 1

-- a member, and those children of its own
abbrev pub weight : MemberAt → ℕ
weight x = suc (further_children (out-Member x.member))

abbrev pub weights : List MemberAt → ℕ
weights ms = sum_by weight ms

pub items-few : (ms : List MemberAt) → length ms ≤ weights ms
items-few [] = omega arith
items-few (m ∷ ms) = omega (arith, items-few ms, sum_by-cons weight m ms)

-- what each kind of member has of its own
pub own-is : (x : Member-F Member TypeDecl) (m : Member) → roll-Member x ≡ m → own_children (out-Member m) ≡ own_children x
own-is x m rolls = ap (λ y. own_children (out-Member y)) (sym rolls) ∙ ap own_children (out-roll-Member x)

further-is : (x : Member-F Member TypeDecl) (m : Member) → roll-Member x ≡ m → further_children (out-Member m) ≡ further_children x
further-is x m rolls = ap (λ y. further_children (out-Member y)) (sym rolls) ∙ ap further_children (out-roll-Member x)

-- they are all but two
pub own-few : (x : Member-F Member TypeDecl) → own_children x ≤ 2 + further_children x
own-few (Member-F.Method method) = omega (arith, further-few method.parameters, further-few method.arguments)
own-few (Member-F.Constructor constructor) = omega (arith, further-few constructor.parameters, further-few constructor.arguments)
own-few (Member-F.Field field) = omega arith
own-few (Member-F.Constant constant) = omega arith
own-few (Member-F.Nested nested) = omega arith

fields-weigh : (doc : Option (List ℕ)) (m : Modifiers) (of : TypeText) (ds : List Declarator) → weights (map (field_of doc m of) ds) ≡ length ds
fields-weigh doc m of [] = refl
fields-weigh doc m of (d ∷ ds) =
    let f = field_of doc m of d in
    let field : FieldDecl = record { name = d.name.name; modifiers = m.bits; annotations = m.annotations; doc = doc; of = in_dims d.dims of; constant = d.constant } in
    omega (arith, sum_by-cons weight f (map (field_of doc m of) ds), further-is (Member-F.Field field) f.member (member.rolls-Field field), fields-weigh doc m of ds)

method-weighs : (doc : Option (List ℕ)) (m : Modifiers) (ps : List TypeParamAt) (of : TypeText) (n : NameAt) (s : Signature) → weight (method_of doc m ps of n s) ≡ suc (further ps + further s.params.params)
method-weighs doc m ps of n s =
    let method : MethodDecl = record {
      name = n.name;
      modifiers = m.bits;
      annotations = m.annotations;
      doc = doc;
      parameters = plain_type_params ps;
      result = in_dims s.dims of;
      arguments = plain_params s.params.params;
      varargs = s.params.varargs;
      thrown = s.thrown;
      default = s.default;
    } in
    omega (arith, further-is (Member-F.Method method) (method_of doc m ps of n s).member (member.rolls-Method method), further-map (λ (p : TypeParamAt). p.param) ps, further-map (λ (p : ParamAt). p.param) s.params.params)

constructor-weighs : (doc : Option (List ℕ)) (m : Modifiers) (line : ℕ) (ps : List TypeParamAt) (s : Signature) → weight (constructor_of doc m line ps s) ≡ suc (further ps + further s.params.params)
constructor-weighs doc m line ps s =
    let constructor : ConstructorDecl = record {
      modifiers = m.bits;
      annotations = m.annotations;
      doc = doc;
      parameters = plain_type_params ps;
      arguments = plain_params s.params.params;
      varargs = s.params.varargs;
      thrown = s.thrown;
    } in
    omega (arith, further-is (Member-F.Constructor constructor) (constructor_of doc m line ps s).member (member.rolls-Constructor constructor), further-map (λ (p : TypeParamAt). p.param) ps, further-map (λ (p : ParamAt). p.param) s.params.params)

items-given : (raw : Option (List ℕ)) (m : Modifiers) (u : Unmodified) → weights (members_of raw m u) ≤ items_of u
items-given raw m unmodified.Nothing = omega arith
items-given raw m (unmodified.Fields of ds) = omega (arith, fields-weigh (doc_of raw) m of ds)
items-given raw m (unmodified.Method ps of n s) = omega (arith, sum_by-cons weight (method_of (doc_of raw) m ps of n s) [], method-weighs (doc_of raw) m ps of n s)
items-given raw m (unmodified.Constructor line ps s) = omega (arith, sum_by-cons weight (constructor_of (doc_of raw) m line ps s) [], constructor-weighs (doc_of raw) m line ps s)
items-given raw m (unmodified.Nested rest) =
    let d = declaration_of (doc_of raw) m rest in
    omega (arith, sum_by-cons weight (member_at (member.Nested d) (type_lines rest)) [], further-is (Member-F.Nested d) (member.Nested d) (member.rolls-Nested d))

items-kept : (ps : List TypeParamAt) (u : Unmodified) → items_of (with_type_params ps u) ≤ further ps + items_of u
items-kept ps unmodified.Nothing = omega arith
items-kept ps (unmodified.Fields of ds) = omega arith
items-kept ps (unmodified.Method qs of n s) = omega arith
items-kept ps (unmodified.Constructor line qs s) = omega arith
items-kept ps (unmodified.Nested rest) = omega arith

-- ---- signatures

abbrev in_signature : Signature → ℕ
in_signature s = suc (further s.params.params)

body-least : (h : ℕ) → AtLeast h body (λ v. 1)
unfolding body
body-least h = in-either (in-braces h) (in-turn silently (λ v. 1) (one h 6 refl) (λ s. omega arith))

method-added : (h : ℕ) (ts : List Symbol) (s : Signature) → Is (WholeAt h) method_signature ts s → Adds ts (in_signature s)
unfolding method_signature
method-added h ts s is =
    let p = in-pair (params-least h) (in-pair (none h (many dim) even.dims_even) (in-before 1 (none h thrown even.thrown_even) (body-least h))) in
    adds-less (p.added ts is.0 is.1) (omega (arith, ap in_signature is.2))

method-signature-least : (h : ℕ) → AtLeast h method_signature in_signature
method-signature-least h = at-least (method-added h)

constructor-added : (h : ℕ) (ts : List Symbol) (s : Signature) → Is (WholeAt h) constructor_signature ts s → Adds ts (in_signature s)
unfolding constructor_signature
constructor-added h ts s is =
    let p = in-pair (params-least h) (in-before 1 (none h thrown even.thrown_even) (in-braces h)) in
    adds-less (p.added ts is.0 is.1) (omega (arith, ap in_signature is.2))

constructor-least : (h : ℕ) → AtLeast h constructor_signature in_signature
constructor-least h = at-least (constructor-added h)

element-added : (h : ℕ) (ts : List Symbol) (s : Signature) → Is (WholeAt h) element_signature ts s → Adds ts (in_signature s)
unfolding element_signature
element-added h ts s is =
    let p = in-behind 0 (none h (sign token.open_parenthesis) refl) (in-behind 0 (none h (sign token.close_parenthesis) refl) (in-pair (none h (many dim) even.dims_even) (element-end-least h))) in
    adds-less (p.added ts is.0 is.1) (omega (arith, ap in_signature is.2))

element-least : (h : ℕ) → AtLeast h element_signature in_signature
element-least h = at-least (element-added h)

-- ---- behind the name of a member, whatever its type and its name are

abbrev named_items : TypeText → NameAt → Named → ℕ
named_items of n g = items_of (g of n)

named-least-of : (h : ℕ) (of : TypeText) (n : NameAt) (signature : Form Signature) → AtLeast h signature in_signature → AtLeast h (turn method_named signature) (named_items of n)
named-least-of h of n signature p = in-turn method_named (named_items of n) p (λ s. omega arith)

member-rest-least : (h : ℕ) (of : TypeText) (n : NameAt) (signature : Form Signature) → AtLeast h signature in_signature → AtLeast h (member_rest signature) (named_items of n)
unfolding field_rest
member-rest-least h of n signature p =
    in-either (named-least-of h of n signature p)
    (in-turn fields_named (named_items of n) (in-pair (none h (many dim) even.dims_even) (value-fewer h)) (λ v. omega arith))

rest-least : (h : ℕ) (of : TypeText) (n : NameAt) (rest : MemberRest) → AtLeast h (rest_form rest) (named_items of n)
rest-least h of n rest_kind.Any = member-rest-least h of n method_signature (method-signature-least h)
rest-least h of n rest_kind.Method = named-least-of h of n method_signature (method-signature-least h)
rest-least h of n rest_kind.Element = member-rest-least h of n element_signature (element-least h)

-- ---- behind the first name of its type

abbrev typed_items : NameAt → Typed → ℕ
typed_items n g = items_of (g n)

typed-added : (h : ℕ) (first : NameAt) (rest : MemberRest) (ts : List Symbol) (g : Typed) → Is (WholeAt h) (typed_member rest) ts g → Adds ts (typed_items first g)
unfolding typed_member
typed-added h first rest ts g is =
    let v = is.0 in
    let arguments = is.1 in
    let parts = arguments.4 in
    let dims = parts.4 in
    let named = dims.4 in
    let of = type_of (base.Named (named_part_of first.name v.0 ∷ v.1.0)) v.1.1.0 in
    let behind-name = (rest-least h of v.1.1.1.0 rest).added named.1 v.1.1.1.1 named.4 in
    let from-name = adds-both named.2 ((none h name_at even.name_at_even).added named.0 v.1.1.1.0 named.3) behind-name in
    let from-dims = adds-both dims.2 ((none h (many dim) even.dims_even).added dims.0 v.1.1.0 dims.3) from-name in
    let from-parts = adds-both parts.2 ((none h (many next_part) even.parts_even).added parts.0 v.1.0 parts.3) from-dims in
    let whole = adds-both arguments.2 ((none h (maybe (nest type_arguments)) refl).added arguments.0 v.0 arguments.3) from-parts in
    adds-less whole (omega (arith, ap (typed_items first) is.2))

typed-least : (h : ℕ) (first : NameAt) (rest : MemberRest) → AtLeast h (typed_member rest) (typed_items first)
typed-least h first rest = at-least (typed-added h first rest)

constructed-least : (h : ℕ) (first : NameAt) (rest : MemberRest) → AtLeast h (constructed_or rest) (typed_items first)
unfolding constructed_or
constructed-least h first rest =
    in-either (in-turn constructed (typed_items first) (constructor-least h) (λ s. omega arith)) (typed-least h first rest)

typed-form-least : (h : ℕ) (first : NameAt) (constructors : Bool) (rest : MemberRest) → AtLeast h (typed_form constructors rest) (typed_items first)
typed-form-least h first true rest = constructed-least h first rest
typed-form-least h first false rest = typed-least h first rest

-- ---- members behind their modifiers

void-least : (h : ℕ) → AtLeast h void_method items_of
unfolding void_method
void-least h = in-turn void_named items_of (in-behind 0 (none h (keyword token.void) refl) (in-pair (none h name_at even.name_at_even) (method-signature-least h))) (λ x. omega arith)

primitive-added : (h : ℕ) (rest : MemberRest) (ts : List Symbol) (u : Unmodified) → Is (WholeAt h) (primitive_member rest) ts u → Adds ts (items_of u)
unfolding primitive_member
primitive-added h rest ts u is =
    let v = is.0 in
    let typed = is.1 in
    let named = typed.4 in
    let behind-name = (rest-least h v.0 v.1.0 rest).added named.1 v.1.1 named.4 in
    let from-name = adds-both named.2 ((none h name_at even.name_at_even).added named.0 v.1.0 named.3) behind-name in
    let whole = adds-both typed.2 ((none h (turn primitive_of_dims (pair primitive_type (many dim))) even.primitive_even).added typed.0 v.0 typed.3) from-name in
    adds-less whole (omega (arith, ap items_of is.2))

primitive-least : (h : ℕ) (rest : MemberRest) → AtLeast h (primitive_member rest) items_of
primitive-least h rest = at-least (primitive-added h rest)

named-added : (h : ℕ) (constructors : Bool) (rest : MemberRest) (ts : List Symbol) (u : Unmodified) → Is (WholeAt h) (named_member constructors rest) ts u → Adds ts (items_of u)
unfolding named_member
named-added h constructors rest ts u is =
    let v = is.0 in
    let named = is.1 in
    let behind-name = (typed-form-least h v.0 constructors rest).added named.1 v.1 named.4 in
    let whole = adds-both named.2 ((none h name_at even.name_at_even).added named.0 v.0 named.3) behind-name in
    adds-less whole (omega (arith, ap items_of is.2))

named-least : (h : ℕ) (constructors : Bool) (rest : MemberRest) → AtLeast h (named_member constructors rest) items_of
named-least h constructors rest = at-least (named-added h constructors rest)

method-least : (h : ℕ) → AtLeast h generic_method items_of
unfolding generic_method
method-least h = in-either (void-least h) (in-either (primitive-least h rest_kind.Method) (named-least h false rest_kind.Method))

annotated-least : (h : ℕ) → AtLeast h annotated_method items_of
unfolding annotated_method
annotated-least h =
    weaker items_of (in-behind 0 (none h annotation even.annotation_even) (in-behind 0 (none h annotations even.annotations_even) (method-least h))) (λ u. omega arith)

generic-rest-least : (h : ℕ) (constructors : Bool) → AtLeast h (generic_rest constructors) items_of
unfolding generic_rest
generic-rest-least h constructors =
    in-either (annotated-least h) (in-either (void-least h) (in-either (primitive-least h rest_kind.Method) (named-least h constructors rest_kind.Method)))

generic-least : (h : ℕ) (constructors : Bool) → AtLeast h (generic constructors) items_of
unfolding generic
generic-least h constructors =
    in-turn generic_of items_of (in-pair (type-params-least h) (generic-rest-least h constructors)) (λ x. omega (arith, items-kept x.0 x.1))

nested-least : (h : ℕ) → AtLeast h nested_member items_of
unfolding nested_member
nested-least h = in-turn unmodified.Nested items_of (type-closed h) (λ x. omega arith)

unmodified-least : (h : ℕ) (constructors : Bool) → AtLeast h (unmodified_of constructors) items_of
unfolding unmodified_of
unmodified-least h constructors =
    in-either (nested-least h) (in-either (void-least h) (in-either (primitive-least h rest_kind.Any) (in-either (named-least h constructors rest_kind.Any) (generic-least h constructors))))

annotation-least : (h : ℕ) → AtLeast h annotation_unmodified items_of
unfolding annotation_unmodified
annotation-least h = in-either (nested-least h) (in-either (primitive-least h rest_kind.Element) (named-least h false rest_kind.Element))

-- ---- members

abbrev modified_items : Modified → ℕ
modified_items x = items_of x.1

static-least : (h : ℕ) (f : Form Unmodified) → AtLeast h f items_of → AtLeast h (static_rest f) modified_items
unfolding static_rest
static-least h f p =
    in-either (in-turn nothing_here modified_items (none h block refl) (λ v. omega arith))
    (in-turn with_static modified_items (in-pair (none h optional_modifiers even.modifiers_even) p) (λ x. omega arith))

plain-least : (h : ℕ) (f : Form Unmodified) → AtLeast h f items_of → AtLeast h (plain_modified f) modified_items
unfolding plain_modified
plain-least h f p = weaker modified_items (in-pair (none h (nest plain_modifiers) refl) p) (λ x. omega arith)

class-least : (h : ℕ) (f : Form Unmodified) → AtLeast h f items_of → AtLeast h (class_modified f) modified_items
class-least h f p =
    in-either (in-turn bare modified_items p (λ u. omega arith))
    (in-either (plain-least h f p) (weaker modified_items (in-behind 0 (none h (nest static_word) refl) (static-least h f p)) (λ x. omega arith)))

any-modified : (h : ℕ) (f : Form Unmodified) → AtLeast h f items_of → AtLeast h (modified f) modified_items
any-modified h f p = weaker modified_items (in-pair (none h optional_modifiers even.modifiers_even) p) (λ x. omega arith)

modified-least : (h : ℕ) (k : TypeKind) → AtLeast h (modified_form k) modified_items
unfolding modified_form
modified-least h kind.Enum = class-least h (unmodified_of true) (unmodified-least h true)
modified-least h kind.Class = class-least h (unmodified_of true) (unmodified-least h true)
modified-least h kind.AnnotationType = any-modified h annotation_unmodified (annotation-least h)
modified-least h kind.Interface = any-modified h (unmodified_of false) (unmodified-least h false)

documented-least : (h : ℕ) (k : TypeKind) → AtLeast h (member_from (modified_form k)) weights
documented-least h k = in-turn documented_members weights (in-seen first_doc (modified-least h k)) (λ x. omega (arith, items-given x.0 x.1.0 x.1.1))

block-least : (h : ℕ) → AtLeast h (turn no_member block) weights
block-least h = in-turn no_member weights (none h block refl) (λ v. omega arith)

or-block-least : (h : ℕ) (k : TypeKind) → AtLeast h (or_block k (member_from (modified_form k))) weights
or-block-least h kind.Enum = in-either (block-least h) (documented-least h kind.Enum)
or-block-least h kind.Class = in-either (block-least h) (documented-least h kind.Class)
or-block-least h kind.AnnotationType = documented-least h kind.AnnotationType
or-block-least h kind.Interface = documented-least h kind.Interface

pub member-least : (h : ℕ) (k : TypeKind) → AtLeast h (member_form k) weights
unfolding member_form
member-least h k = in-either (in-turn no_member weights (none h (sign token.semicolon) refl) (λ s. omega arith)) (or-block-least h k)

-- how many items some members give together
abbrev pub all_items : List (List MemberAt) → ℕ
all_items ms = length (joined_lists ms)

pub members-least : (h : ℕ) (k : TypeKind) → AtLeast h (many (member_form k)) all_items
members-least h k = in-row all_items (member-least h k) refl (λ x xs. omega (arith, items-few x, length-append x (joined_lists xs)))
