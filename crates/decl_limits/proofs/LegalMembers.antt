-- What stands behind the modifiers of a member is legal, but for a nested type.
use Rattle.std.proofs.Common.{◌≡◌, ◌≤◌, ℕ, Bool, true, false, List, [], ◌∷◌, ◌++◌, length, Option, None, refl, arith, length-append}
use Rattle.std.specs.List.{list_all}
use Rattle.apt_base.specs.Forms.{is_name, all_fit, fits_if_some}
use Rattle.decl_tree.specs.Legal.{part_fits, inside_type, is_legal_type, is_legal_value}
use Rattle.decl_tree.specs.declared.annotation.ValueText.{ValueText}
use Rattle.apt_base.specs.declared.around.Around.{Around}
use Rattle.decl_tree.specs.declared.type_text.BaseType.TheVariants as base
use Rattle.decl_tree.specs.declared.type_text.NamedPart.{NamedPart}
use Rattle.decl_tree.specs.declared.type_text.PrimitiveKind.TheVariants as primitive
use Rattle.decl_tree.specs.declared.type_text.TypeText.{TypeText}
use Rattle.decl_grammar.specs.declared.symbol.Symbol.{Symbol}
use Rattle.decl_grammar.specs.declared.written.MemberRest.{MemberRest}
use Rattle.decl_grammar.specs.declared.written.MemberRest.TheVariants as rest_kind
use Rattle.decl_grammar.specs.declared.written.NameAt.{NameAt}
use Rattle.decl_grammar.specs.declared.written.Params.{Params}
use Rattle.decl_grammar.specs.declared.written.Signature.{Signature}
use Rattle.decl_grammar.specs.declared.written.TypeParamAt.{TypeParamAt}
use Rattle.decl_grammar.specs.declared.written.Unmodified.{Unmodified}
use Rattle.decl_grammar.specs.declared.written.Unmodified.TheVariants as unmodified
use Rattle.decl_grammar.specs.TokenNames as token
use Rattle.decl_grammar.specs.Form.{Form, pair, turn, many}
use Rattle.decl_grammar.specs.Constants.{named_part_of, type_of}
use Rattle.decl_grammar.specs.Types.{sign, list_or_none, name_at, primitive_type, dim}
use Rattle.decl_grammar.specs.Grammar.{params_of, no_params, thrown, signature_of, method_signature, constructor_signature, no_default, some_default, element_end, element_signature, Named, fields_named, method_named, field_rest, member_rest, rest_form, Typed, typed_as, typed_member, constructed, constructed_or, typed_form, void_named, void_method, primitive_of_dims, primitive_named, primitive_member, typed_named, named_member, with_type_params, generic_method, annotated_method, generic_rest, generic_of, generic}
use Rattle.decl_grammar.proofs.Firsts.{next_part_full}
use Rattle.decl_limits.proofs.LegalTexts.{and-true, Items, items-fit, items-grow, one-more-short}
use Rattle.decl_limits.proofs.LegalForms.{Has, anything, has-turn, has-pair, has-behind, has-before, has-maybe, has-either, has-row}
use Rattle.decl_limits.proofs.LegalTypes.{part-legal, TypeFits, primitive-legal, named-legal, type-of-legal, next-part-has, arguments-has, classes-has}
use Rattle.decl_limits.proofs.LegalValues.{default-has}
use Rattle.decl_limits.proofs.LegalRows.{declarator_fits}
use Rattle.decl_limits.proofs.LegalFields.{name-at-has, InitFits, value-or-end-has}
use Rattle.decl_limits.proofs.LegalParams.{type_param_fits, type-params-have, AllParams, params-have}

-- ---- signatures

abbrev pub SignatureFits : ℕ → List Symbol → Signature → Type 0
SignatureFits room ts s = AllParams room ts s.params × ((all_fit (is_legal_type room) s.thrown ≡ true) × (fits_if_some (is_legal_value room) s.default ≡ true))

abbrev Thrown : ℕ → List Symbol → List TypeText → Type 0
Thrown room ts xs = all_fit (is_legal_type room) xs ≡ true

thrown-has : (h room : ℕ) → Has h room thrown (Thrown room)
unfolding thrown
thrown-has h room =
    has-turn (list_or_none {A = TypeText}) (Thrown room)
    (has-maybe (λ ts o. Thrown room ts (list_or_none o)) (has-behind (classes-has h room) (items-grow (is_legal_type room))) (λ ts. refl) (λ ts xs a i. items-fit (is_legal_type room) ts xs a i))
    (λ ts o a p. p)

method-signature-has : (h room : ℕ) → Has h room method_signature (SignatureFits room)
unfolding method_signature
method-signature-has h room =
    has-turn (λ (x : Params × (List Around × List TypeText)). signature_of x.0 x.1.0 x.1.1 None) (SignatureFits room)
    (has-pair (λ ts x. AllParams room ts x.0 × Thrown room ts x.1.1) (params-have h room)
    (has-pair (λ ts x. Thrown room ts x.1) (anything h room (many dim)) (has-before (thrown-has h room) (λ us vs xs p. p)) (λ us vs x a p q. q))
    (λ us vs x a p q. (p, q)))
    (λ ts x a p. (p.0, (p.1, refl)))

constructor-signature-has : (h room : ℕ) → Has h room constructor_signature (SignatureFits room)
unfolding constructor_signature
constructor-signature-has h room =
    has-turn (λ (x : Params × List TypeText). signature_of x.0 [] x.1 None) (SignatureFits room)
    (has-pair (λ ts x. AllParams room ts x.0 × Thrown room ts x.1) (params-have h room) (has-before (thrown-has h room) (λ us vs xs p. p)) (λ us vs x a p q. (p, q)))
    (λ ts x a p. (p.0, (p.1, refl)))

abbrev DefaultFits : ℕ → List Symbol → Option ValueText → Type 0
DefaultFits room ts v = fits_if_some (is_legal_value room) v ≡ true

element-end-has : (h room : ℕ) → Has h room element_end (DefaultFits room)
unfolding element_end
element-end-has h room =
    has-either (has-turn no_default (DefaultFits room) (anything h room (sign token.semicolon)) (λ ts s a p. refl))
    (has-turn some_default (DefaultFits room) (has-behind (default-has h room) (λ us vs x p. p)) (λ ts x a p. p.0))

element-signature-has : (h room : ℕ) → Has h room element_signature (SignatureFits room)
unfolding element_signature
element-signature-has h room =
    has-turn (λ (x : List Around × Option ValueText). signature_of (params_of no_params) x.0 [] x.1) (SignatureFits room)
    (has-behind (has-behind (has-pair (λ ts x. DefaultFits room ts x.1) (anything h room (many dim)) (element-end-has h room) (λ us vs x a p q. q)) (λ us vs x p. p)) (λ us vs x p. p))
    (λ ts x a p. (refl, (refl, p)))

-- ---- what stands behind modifiers

-- all but a nested type
abbrev pub UnmodifiedFits : ℕ → List Symbol → Unmodified → Type 0
UnmodifiedFits room ts unmodified.Nothing = Unit {0}
UnmodifiedFits room ts (unmodified.Fields of ds) = TypeFits room of × (list_all (declarator_fits room) ds ≡ true)
UnmodifiedFits room ts (unmodified.Method ps of n s) = (list_all (type_param_fits room) ps ≡ true) × (TypeFits room of × ((is_name n.name ≡ true) × SignatureFits room ts s))
UnmodifiedFits room ts (unmodified.Constructor line ps s) = (list_all (type_param_fits room) ps ≡ true) × SignatureFits room ts s
UnmodifiedFits room ts (unmodified.Nested rest) = ⊥

-- behind the name, whatever legal type and name stand before
abbrev NamedFits : ℕ → List Symbol → Named → Type 0
NamedFits room ts g = (of : TypeText) (n : NameAt) → TypeFits room of → is_name n.name ≡ true → UnmodifiedFits room ts (g of n)

abbrev TypedFits : ℕ → List Symbol → Typed → Type 0
TypedFits room ts g = (n : NameAt) → is_name n.name ≡ true → UnmodifiedFits room ts (g n)

-- of what is made of parts nothing is asked of all symbols
grown : (room : ℕ) (us vs : List Symbol) (u : Unmodified) → UnmodifiedFits room vs u → UnmodifiedFits room (us ++ vs) u
grown room us vs unmodified.Nothing p = p
grown room us vs (unmodified.Fields of ds) p = p
grown room us vs (unmodified.Method ps of n s) p = p
grown room us vs (unmodified.Constructor line ps s) p = p
grown room us vs (unmodified.Nested rest) p = p

method-named-has : (h room : ℕ) (f : Form Signature) → Has h room f (SignatureFits room) → Has h room (turn method_named f) (NamedFits room)
method-named-has h room f p = has-turn method_named (NamedFits room) p (λ ts s a q. λ of n t m. (refl, (t, (m, q))))

member-rest-has : (h room : ℕ) (f : Form Signature) → Has h room f (SignatureFits room) → Has h room (member_rest f) (NamedFits room)
unfolding field_rest
member-rest-has h room f p =
    has-either (method-named-has h room f p)
    (has-turn fields_named (NamedFits room) (has-pair (λ ts x. InitFits room ts x.1) (anything h room (many dim)) (value-or-end-has h room) (λ us vs x a p q. (q.0, items-grow (declarator_fits room) us vs x.1.1 q.1)))
    (λ ts v a q. λ of n t m. (t, and-true (and-true m q.0) q.1.fit)))

rest-has : (h room : ℕ) (rest : MemberRest) → Has h room (rest_form rest) (NamedFits room)
rest-has h room rest_kind.Any = member-rest-has h room method_signature (method-signature-has h room)
rest-has h room rest_kind.Method = method-named-has h room method_signature (method-signature-has h room)
rest-has h room rest_kind.Element = member-rest-has h room element_signature (element-signature-has h room)

-- a name, and what stands behind it
named-has : (h room : ℕ) (rest : MemberRest) → Has h room (pair name_at (rest_form rest)) (λ ts x. (is_name x.0.name ≡ true) × NamedFits room ts x.1)
named-has h room rest =
    has-pair (λ ts x. (is_name x.0.name ≡ true) × NamedFits room ts x.1) (name-at-has h room) (rest-has h room rest)
    (λ us vs x a p q. (p, λ of n t m. grown room us vs (x.1 of n) (q of n t m)))

-- ---- members of a class type, of which the first name is known

abbrev PartsFit : ℕ → List Symbol → List NamedPart → Type 0
PartsFit room ts xs = Items (part_fits (inside_type room)) ts xs

typed-has : (h room : ℕ) (rest : MemberRest) → Has h room (typed_member rest) (TypedFits room)
unfolding typed_member
typed-has h room rest =
    let inside = part_fits (inside_type room) in
    has-turn typed_as (TypedFits room)
    (has-pair (λ ts v. TypedFits room ts (typed_as v))
    (has-maybe (λ ts o. fits_if_some (all_fit (inside_type room)) o ≡ true) (arguments-has h room) (λ ts. refl) (λ ts xs a i. items-fit (inside_type room) ts xs a i))
    (has-pair (λ ts y. (list_all inside y.0 ≡ true) × ((length y.0 ≤ length ts) × ((is_name y.1.1.0.name ≡ true) × NamedFits room ts y.1.1.1)))
    (has-row inside next_part_full (next-part-has h room (arguments-has h)))
    (has-pair (λ ts z. (is_name z.1.0.name ≡ true) × NamedFits room ts z.1.1) (anything h room (many dim)) (named-has h room rest)
    (λ us vs z a p q. (q.0, λ of n t m. grown room us vs (z.1.1 of n) (q.1 of n t m))))
    (λ us vs y a i q. (i.fit, (omega (arith, i.few, length-append us vs), (q.0, λ of n t m. grown room us vs (y.1.1.1 of n) (q.1 of n t m))))))
    (λ us vs v a os q. λ first name.
    let parts = named_part_of first.name v.0 ∷ v.1.0 in
    let short = one-more-short (us ++ vs) parts a (omega (arith, q.1.0, length-append us vs)) in
    let fit = and-true short (and-true (part-legal (inside_type room) first.name v.0 name os) q.0) in
    let of = type_of (base.Named parts) v.1.1.0 in
    grown room us vs (v.1.1.1.1 of v.1.1.1.0) (q.1.1.1 of v.1.1.1.0 (type-of-legal room (base.Named parts) v.1.1.0 (named-legal room parts fit)) q.1.1.0)))
    (λ ts v a p. p)

constructed-has : (h room : ℕ) (rest : MemberRest) → Has h room (constructed_or rest) (TypedFits room)
unfolding constructed_or
constructed-has h room rest =
    has-either (has-turn constructed (TypedFits room) (constructor-signature-has h room) (λ ts s a p. λ n m. (refl, p))) (typed-has h room rest)

typed-form-has : (h room : ℕ) (constructors : Bool) (rest : MemberRest) → Has h room (typed_form constructors rest) (TypedFits room)
typed-form-has h room true rest = constructed-has h room rest
typed-form-has h room false rest = typed-has h room rest

-- ---- members

pub void-has : (h room : ℕ) → Has h room void_method (UnmodifiedFits room)
unfolding void_method
void-has h room =
    has-turn void_named (UnmodifiedFits room)
    (has-behind (has-pair (λ ts x. (is_name x.0.name ≡ true) × SignatureFits room ts x.1) (name-at-has h room) (method-signature-has h room) (λ us vs x a p q. (p, q))) (λ us vs x p. p))
    (λ ts x a p. (refl, (type-of-legal room (base.Primitive primitive.Void) [] (primitive-legal room primitive.Void), (p.0, p.1))))

pub primitive-has : (h room : ℕ) (rest : MemberRest) → Has h room (primitive_member rest) (UnmodifiedFits room)
unfolding primitive_member
primitive-has h room rest =
    has-turn primitive_named (UnmodifiedFits room)
    (has-pair (λ ts x. UnmodifiedFits room ts (primitive_named x))
    (has-turn primitive_of_dims (λ ts of. TypeFits room of) (anything h room (pair primitive_type (many dim))) (λ ts x a p. type-of-legal room (base.Primitive x.0) x.1 (primitive-legal room x.0)))
    (named-has h room rest)
    (λ us vs x a t q. grown room us vs (x.1.1 x.0 x.1.0) (q.1 x.0 x.1.0 t q.0)))
    (λ ts x a p. p)

pub named-member-has : (h room : ℕ) (constructors : Bool) (rest : MemberRest) → Has h room (named_member constructors rest) (UnmodifiedFits room)
unfolding named_member
named-member-has h room constructors rest =
    has-turn typed_named (UnmodifiedFits room)
    (has-pair (λ ts x. UnmodifiedFits room ts (typed_named x)) (name-at-has h room) (typed-form-has h room constructors rest) (λ us vs x a p q. grown room us vs (x.1 x.0) (q x.0 p)))
    (λ ts x a p. p)

method-has : (h room : ℕ) → Has h room generic_method (UnmodifiedFits room)
unfolding generic_method
method-has h room = has-either (void-has h room) (has-either (primitive-has h room rest_kind.Method) (named-member-has h room false rest_kind.Method))

annotated-has : (h room : ℕ) → Has h room annotated_method (UnmodifiedFits room)
unfolding annotated_method
annotated-has h room = has-behind (has-behind (method-has h room) (grown room)) (grown room)

generic-rest-has : (h room : ℕ) (constructors : Bool) → Has h room (generic_rest constructors) (UnmodifiedFits room)
unfolding generic_rest
generic-rest-has h room constructors =
    has-either (annotated-has h room) (has-either (void-has h room) (has-either (primitive-has h room rest_kind.Method) (named-member-has h room constructors rest_kind.Method)))

with-params : (room : ℕ) (ts us : List Symbol) (ps : List TypeParamAt) (u : Unmodified) → list_all (type_param_fits room) ps ≡ true → UnmodifiedFits room us u → UnmodifiedFits room ts (with_type_params ps u)
with-params room ts us ps unmodified.Nothing p q = q
with-params room ts us ps (unmodified.Fields of ds) p q = q
with-params room ts us ps (unmodified.Method qs of n s) p q = (p, q.1)
with-params room ts us ps (unmodified.Constructor line qs s) p q = (p, q.1)
with-params room ts us ps (unmodified.Nested rest) p q = q

pub generic-has : (h room : ℕ) (constructors : Bool) → Has h room (generic constructors) (UnmodifiedFits room)
unfolding generic
generic-has h room constructors =
    has-turn generic_of (UnmodifiedFits room)
    (has-pair (λ ts x. UnmodifiedFits room ts (generic_of x)) (type-params-have h room) (generic-rest-has h room constructors) (λ us vs x a p q. with-params room (us ++ vs) vs x.0 x.1 p q))
    (λ ts x a p. p)
