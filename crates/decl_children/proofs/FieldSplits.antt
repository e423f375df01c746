-- A declaration of several fields is a type, the name of the first field with its brackets, and what stands behind these.
use Rattle.std.proofs.Common.{◌≡◌, ℕ, suc, ◌+◌, ◌<◌, Bool, true, false, List, [], ◌∷◌, ◌++◌, length, Option, Some, None, ◌⊎◌, inl, inr, ⊎_elim, refl, sym, ap, subst, ◌∙◌, append_assoc, arith}
use Rattle.decl_tree.specs.declared.annotation.ValueText.{ValueText}
use Rattle.decl_tree.specs.declared.declaration.TypeKind.{TypeKind}
use Rattle.decl_tree.specs.declared.declaration.TypeKind.TheVariants as kind
use Rattle.apt_base.specs.declared.around.Around.{Around}
use Rattle.decl_tree.specs.declared.type_text.BaseType.{BaseType}
use Rattle.decl_tree.specs.declared.type_text.BaseType.TheVariants as base
use Rattle.decl_tree.specs.declared.type_text.NamedPart.{NamedPart}
use Rattle.decl_tree.specs.declared.type_text.PrimitiveKind.{PrimitiveKind}
use Rattle.decl_tree.specs.declared.type_text.TypeText.{TypeText}
use Rattle.decl_grammar.specs.declared.symbol.Symbol.{Symbol}
use Rattle.decl_grammar.specs.declared.written.Declarator.{Declarator}
use Rattle.decl_grammar.specs.declared.written.MemberRest.{MemberRest}
use Rattle.decl_grammar.specs.declared.written.MemberRest.TheVariants as rest_kind
use Rattle.decl_grammar.specs.declared.written.NameAt.{NameAt}
use Rattle.decl_grammar.specs.declared.written.Signature.{Signature}
use Rattle.decl_grammar.specs.declared.written.TypeParamAt.{TypeParamAt}
use Rattle.decl_grammar.specs.declared.written.Unmodified.{Unmodified}
use Rattle.decl_grammar.specs.declared.written.Unmodified.TheVariants as unmodified
use Rattle.decl_grammar.specs.Form.{Form, pair, turn, maybe, many, either, nest, nested_type, type_arguments}
use Rattle.decl_grammar.specs.Types.{behind, silently, annotation, annotations, name, name_at, dim, base_type, class_type, named_part, next_part, primitive_type, type_form, type_params, type_in, first_and_rest}
use Rattle.decl_grammar.specs.Constants.{named_part_of, type_of}
use Rattle.decl_grammar.specs.Expressions.{value_or_end}
use Rattle.decl_grammar.specs.Grammar.{Named, Typed, method_signature, constructor_signature, element_signature, field_rest, fields_named, method_named, member_rest, rest_form, typed_as, typed_member, constructed, constructed_or, typed_form, void_named, void_method, primitive_of_dims, primitive_named, primitive_member, typed_named, named_member, with_type_params, generic_method, annotated_method, generic_rest, generic_of, generic, nested_member, unmodified_of, annotation_unmodified}
use Rattle.decl_children.specs.TypeWalks.{unmodified_form}
use Rattle.decl_children.specs.Unmodifieds.{count_of, field_front}
use Rattle.decl_children.proofs.Phrases.{Phrase, paired, turned, at-left, at-right, moved, means, un-pair, un-turn, un-behind, un-either}
use Rattle.decl_children.proofs.Passages.{onto, under}
use Rattle.decl_children.proofs.TypeSplits.{name-plain, name-placed}

-- ---- taken apart

-- several fields, by the first one and what stands behind it
pub record FieldsSplit (us : List Symbol) (count : ℕ) : Type 0 where
  pub front : List Symbol
  pub back : List Symbol
  pub value : Option ValueText × List Declarator
  pub parts : us ≡ front ++ back
  pub heading : Phrase field_front front tt
  pub others : Phrase value_or_end back value
  pub total : count ≡ suc (length value.1)

-- one member, or, where this holds, fields
abbrev Counted : Type 0 → List Symbol → ℕ → Type 0
Counted A us n = (n ≡ 1) ⊎ (A × FieldsSplit us n)

-- what stands behind a name: of one member, or of fields
record RestSplit (us : List Symbol) (g : Named) : Type 0 where
  front : List Symbol
  back : List Symbol
  dims : List Around
  value : Option ValueText × List Declarator
  parts : us ≡ front ++ back
  brackets : Phrase (many dim) front dims
  others : Phrase value_or_end back value
  total : (of : TypeText) (n : NameAt) → count_of (g of n) ≡ suc (length value.1)

abbrev RestCounted : Type 0 → List Symbol → Named → Type 0
RestCounted A us g = ((of : TypeText) (n : NameAt) → count_of (g of n) ≡ 1) ⊎ (A × RestSplit us g)

member-rest : (s : Form Signature) (us : List Symbol) (g : Named) → Phrase (member_rest s) us g → RestCounted (Unit {0}) us g
unfolding field_rest
member-rest s us g p =
    ⊎_elim
    (λ (q : Phrase (turn method_named s) us g). let t = un-turn q in inl (λ of n. ap (λ (h : Named). count_of (h of n)) t.is_value))
    (λ (q : Phrase (turn fields_named field_rest) us g).
    let t = un-turn q in
    let r = un-pair t.whole in
    inr (
      tt,
      record {
        front = r.front;
        back = r.back;
        dims = t.value.0;
        value = t.value.1;
        parts = r.parts;
        brackets = r.first;
        others = r.second;
        total = λ of n. ap (λ (h : Named). count_of (h of n)) t.is_value;
      },
    ))
    (un-either p)

method-rest : (us : List Symbol) (g : Named) → Phrase (rest_form rest_kind.Method) us g → RestCounted ⊥ us g
method-rest us g p = let t = un-turn p in inl (λ of n. ap (λ (h : Named). count_of (h of n)) t.is_value)

abbrev Rests : Type 0 → MemberRest → Type 0
Rests A r = (us : List Symbol) (g : Named) → Phrase (rest_form r) us g → RestCounted A us g

void-one : (us : List Symbol) (u : Unmodified) → Phrase void_method us u → count_of u ≡ 1
unfolding void_method
void-one us u p = let t = un-turn p in ap count_of t.is_value

primitive-type : (us : List Symbol) (x : TypeText) → Phrase (turn primitive_of_dims (pair primitive_type (many dim))) us x → (y : TypeText) × Phrase type_form us y
unfolding type_form base_type
primitive-type us x p =
    let t = un-turn p in
    let q = un-pair t.whole in
    (_, moved us (sym q.parts) (turned type_in (paired (at-left (turn base.Named class_type) (turned base.Primitive q.first)) q.second)))

primitive-out : (A : Type 0) (r : MemberRest) → Rests A r → (us : List Symbol) (u : Unmodified) → Phrase (primitive_member r) us u → Counted A us (count_of u)
unfolding primitive_member
primitive-out A r rests us u p =
    let t = un-turn p in
    let q = un-pair t.whole in
    let s = un-pair q.second in
    ⊎_elim (λ (one : (of : TypeText) (n : NameAt) → count_of (t.value.1.1 of n) ≡ 1). inl (ap count_of t.is_value ∙ one t.value.0 t.value.1.0))
    (λ (z : A × RestSplit s.back t.value.1.1).
    let w = primitive-type q.front t.value.0 q.first in
    inr (
      z.0,
      record {
        front = q.front ++ (s.front ++ z.1.front);
        back = z.1.back;
        value = z.1.value;
        parts = onto q.front _ z.1.back q.parts (onto s.front _ z.1.back s.parts z.1.parts);
        heading = turned silently (paired w.1 (paired (name-plain s.first) z.1.brackets));
        others = z.1.others;
        total = ap count_of t.is_value ∙ z.1.total t.value.0 t.value.1.0;
      },
    ))
    (rests s.back t.value.1.1 s.second)

-- what stands behind a first name
abbrev TypedCounted : Type 0 → List Symbol → NameAt → List Symbol → Typed → Type 0
TypedCounted A ns n us g = Counted A (ns ++ us) (count_of (g n))

typed-out : (A : Type 0) (r : MemberRest) → Rests A r → (ns : List Symbol) (n : NameAt) → Phrase name_at ns n → (us : List Symbol) (g : Typed) → Phrase (typed_member r) us g → TypedCounted A ns n us g
unfolding typed_member type_form base_type class_type named_part
typed-out A r rests ns n named us g p =
    let t = un-turn p in
    let a = un-pair t.whole in
    let b = un-pair a.second in
    let c = un-pair b.second in
    let d = un-pair c.second in
    let v = t.value in
    let f = v.1.1.1.1 in
    let of = type_of (base.Named (named_part_of n.name v.0 ∷ v.1.0)) v.1.1.0 in
    let same : count_of (g n) ≡ count_of (f of v.1.1.1.0) = ap (λ (h : Typed). count_of (h n)) t.is_value in
    ⊎_elim (λ (one : (x : TypeText) (m : NameAt) → count_of (f x m) ≡ 1). inl (same ∙ one of v.1.1.1.0))
    (λ (z : A × RestSplit d.back f).
    let part = turned (λ (x : List ℕ × Option (List TypeText)). named_part_of x.0 x.1) (paired (name-plain named) a.first) in
    let class = at-right (turn base.Primitive primitive_type) (turned base.Named (turned first_and_rest (paired part b.first))) in
    let whole = turned type_in (paired class c.first) in
    let cut : ns ++ us ≡ (((ns ++ a.front) ++ b.front) ++ c.front) ++ (d.front ++ d.back) =
    onto ns _ (d.front ++ d.back) refl (onto a.front _ (d.front ++ d.back) a.parts (onto b.front _ (d.front ++ d.back) b.parts (c.parts ∙ ap (λ (zs : List Symbol). c.front ++ zs) d.parts)))
    ∙ ap (λ (zs : List Symbol). zs ++ (d.front ++ d.back)) (sym (append_assoc ns a.front (b.front ++ c.front)) ∙ sym (append_assoc (ns ++ a.front) b.front c.front)) in
    inr (
      z.0,
      record {
        front = (((ns ++ a.front) ++ b.front) ++ c.front) ++ (d.front ++ z.1.front);
        back = z.1.back;
        value = z.1.value;
        parts = onto (((ns ++ a.front) ++ b.front) ++ c.front) _ z.1.back cut (onto d.front _ z.1.back refl z.1.parts);
        heading = turned silently (paired whole (paired (name-plain d.first) z.1.brackets));
        others = z.1.others;
        total = same ∙ z.1.total of v.1.1.1.0;
      },
    ))
    (rests d.back f d.second)

constructed-out : (A : Type 0) (r : MemberRest) → Rests A r → (ns : List Symbol) (n : NameAt) → Phrase name_at ns n → (us : List Symbol) (g : Typed) → Phrase (constructed_or r) us g → TypedCounted A ns n us g
unfolding constructed_or
constructed-out A r rests ns n named us g p =
    ⊎_elim (λ (q : Phrase (turn constructed constructor_signature) us g). let t = un-turn q in inl (ap (λ (h : Typed). count_of (h n)) t.is_value))
    (λ (q : Phrase (typed_member r) us g). typed-out A r rests ns n named us g q)
    (un-either p)

typed-form-out : (A : Type 0) (c : Bool) (r : MemberRest) → Rests A r → (ns : List Symbol) (n : NameAt) → Phrase name_at ns n → (us : List Symbol) (g : Typed) → Phrase (typed_form c r) us g → TypedCounted A ns n us g
typed-form-out A true r rests ns n named us g p = constructed-out A r rests ns n named us g p
typed-form-out A false r rests ns n named us g p = typed-out A r rests ns n named us g p

named-out : (A : Type 0) (c : Bool) (r : MemberRest) → Rests A r → (us : List Symbol) (u : Unmodified) → Phrase (named_member c r) us u → Counted A us (count_of u)
unfolding named_member
named-out A c r rests us u p =
    let t = un-turn p in
    let q = un-pair t.whole in
    let z = typed-form-out A c r rests q.front t.value.0 q.first q.back t.value.1 q.second in
    subst (λ (zs : List Symbol). Counted A zs (count_of u)) (sym q.parts) (subst (λ (j : ℕ). Counted A (q.front ++ q.back) j) (sym (ap count_of t.is_value)) z)

none-of : (us : List Symbol) (n : ℕ) → Counted ⊥ us n → n ≡ 1
none-of us n (inl e) = e
none-of us n (inr z) = absurd z.0

params-count : (ps : List TypeParamAt) (u : Unmodified) → count_of (with_type_params ps u) ≡ count_of u
params-count ps unmodified.Nothing = refl
params-count ps (unmodified.Fields of ds) = refl
params-count ps (unmodified.Method qs of n s) = refl
params-count ps (unmodified.Constructor line qs s) = refl
params-count ps (unmodified.Nested rest) = refl

primitive-one : (us : List Symbol) (u : Unmodified) → Phrase (primitive_member rest_kind.Method) us u → count_of u ≡ 1
primitive-one us u p = none-of us (count_of u) (primitive-out ⊥ rest_kind.Method method-rest us u p)

named-one : (c : Bool) (us : List Symbol) (u : Unmodified) → Phrase (named_member c rest_kind.Method) us u → count_of u ≡ 1
named-one c us u p = none-of us (count_of u) (named-out ⊥ c rest_kind.Method method-rest us u p)

method-one : (us : List Symbol) (u : Unmodified) → Phrase generic_method us u → count_of u ≡ 1
unfolding generic_method
method-one us u p =
    ⊎_elim (void-one us u)
    (λ (q : Phrase (either (primitive_member rest_kind.Method) (named_member false rest_kind.Method)) us u). ⊎_elim (primitive-one us u) (named-one false us u) (un-either q))
    (un-either p)

annotated-one : (us : List Symbol) (u : Unmodified) → Phrase annotated_method us u → count_of u ≡ 1
unfolding annotated_method
annotated-one us u p = let a = un-behind p in let b = un-behind a.second in method-one b.back u b.second

rest-one : (c : Bool) (us : List Symbol) (u : Unmodified) → Phrase (generic_rest c) us u → count_of u ≡ 1
unfolding generic_rest
rest-one c us u p =
    ⊎_elim (annotated-one us u)
    (λ (q : Phrase (either void_method (either (primitive_member rest_kind.Method) (named_member c rest_kind.Method))) us u).
    ⊎_elim (void-one us u)
    (λ (r : Phrase (either (primitive_member rest_kind.Method) (named_member c rest_kind.Method)) us u). ⊎_elim (primitive-one us u) (named-one c us u) (un-either r))
    (un-either q))
    (un-either p)

generic-one : (c : Bool) (us : List Symbol) (u : Unmodified) → Phrase (generic c) us u → count_of u ≡ 1
unfolding generic
generic-one c us u p =
    let t = un-turn p in
    let q = un-pair t.whole in
    ap count_of t.is_value ∙ (params-count t.value.0 t.value.1 ∙ rest-one c q.back t.value.1 q.second)

nested-one : (us : List Symbol) (u : Unmodified) → Phrase nested_member us u → count_of u ≡ 1
unfolding nested_member
nested-one us u p = let t = un-turn p in ap count_of t.is_value

any-rests : Rests (Unit {0}) rest_kind.Any
any-rests us g p = member-rest method_signature us g p

element-rests : Rests (Unit {0}) rest_kind.Element
element-rests us g p = member-rest element_signature us g p

abbrev AnyCounted : List Symbol → Unmodified → Type 0
AnyCounted us u = Counted (Unit {0}) us (count_of u)

class-counted : (c : Bool) (us : List Symbol) (u : Unmodified) → Phrase (unmodified_of c) us u → AnyCounted us u
unfolding unmodified_of
class-counted c us u p =
    ⊎_elim (λ (q : Phrase nested_member us u). inl (nested-one us u q))
    (λ (q : Phrase (either void_method (either (primitive_member rest_kind.Any) (either (named_member c rest_kind.Any) (generic c)))) us u).
    ⊎_elim (λ (r : Phrase void_method us u). inl (void-one us u r))
    (λ (r : Phrase (either (primitive_member rest_kind.Any) (either (named_member c rest_kind.Any) (generic c))) us u).
    ⊎_elim (primitive-out (Unit {0}) rest_kind.Any any-rests us u)
    (λ (s : Phrase (either (named_member c rest_kind.Any) (generic c)) us u). ⊎_elim (named-out (Unit {0}) c rest_kind.Any any-rests us u) (λ (z : Phrase (generic c) us u). inl (generic-one c us u z)) (un-either s))
    (un-either r))
    (un-either q))
    (un-either p)

annotation-counted : (us : List Symbol) (u : Unmodified) → Phrase annotation_unmodified us u → AnyCounted us u
unfolding annotation_unmodified
annotation-counted us u p =
    ⊎_elim (λ (q : Phrase nested_member us u). inl (nested-one us u q))
    (λ (q : Phrase (either (primitive_member rest_kind.Element) (named_member false rest_kind.Element)) us u).
    ⊎_elim (primitive-out (Unit {0}) rest_kind.Element element-rests us u) (named-out (Unit {0}) false rest_kind.Element element-rests us u) (un-either q))
    (un-either p)

-- a member is one, or fields
pub fields-out : (k : TypeKind) (us : List Symbol) (u : Unmodified) → Phrase (unmodified_form k) us u → (count_of u ≡ 1) ⊎ FieldsSplit us (count_of u)
fields-out k us u p = go (counted k p)
  where
    counted : (j : TypeKind) → Phrase (unmodified_form j) us u → AnyCounted us u
    counted kind.Enum q = class-counted true us u q
    counted kind.Class q = class-counted true us u q
    counted kind.AnnotationType q = annotation-counted us u q
    counted kind.Interface q = class-counted false us u q

    go : AnyCounted us u → (count_of u ≡ 1) ⊎ FieldsSplit us (count_of u)
    go (inl e) = inl e
    go (inr z) = inr z.1

-- ---- put together

abbrev rest_in : TypeKind → MemberRest
rest_in kind.Enum = rest_kind.Any
rest_in kind.Class = rest_kind.Any
rest_in kind.AnnotationType = rest_kind.Element
rest_in kind.Interface = rest_kind.Any

abbrev constructors_in : TypeKind → Bool
constructors_in kind.Enum = true
constructors_in kind.Class = true
constructors_in kind.AnnotationType = false
constructors_in kind.Interface = false

primitive-in : (k : TypeKind) (us : List Symbol) (u : Unmodified) → Phrase (primitive_member (rest_in k)) us u → Phrase (unmodified_form k) us u
unfolding unmodified_of annotation_unmodified
primitive-in kind.Enum us u p = at-right nested_member (at-right void_method (at-left (either (named_member true rest_kind.Any) (generic true)) p))
primitive-in kind.Class us u p = at-right nested_member (at-right void_method (at-left (either (named_member true rest_kind.Any) (generic true)) p))
primitive-in kind.AnnotationType us u p = at-right nested_member (at-left (named_member false rest_kind.Element) p)
primitive-in kind.Interface us u p = at-right nested_member (at-right void_method (at-left (either (named_member false rest_kind.Any) (generic false)) p))

named-in : (k : TypeKind) (us : List Symbol) (u : Unmodified) → Phrase (named_member (constructors_in k) (rest_in k)) us u → Phrase (unmodified_form k) us u
unfolding unmodified_of annotation_unmodified
named-in kind.Enum us u p = at-right nested_member (at-right void_method (at-right (primitive_member rest_kind.Any) (at-left (generic true) p)))
named-in kind.Class us u p = at-right nested_member (at-right void_method (at-right (primitive_member rest_kind.Any) (at-left (generic true) p)))
named-in kind.AnnotationType us u p = at-right nested_member (at-right (primitive_member rest_kind.Element) p)
named-in kind.Interface us u p = at-right nested_member (at-right void_method (at-right (primitive_member rest_kind.Any) (at-left (generic false) p)))

typed-in : (c : Bool) (r : MemberRest) (us : List Symbol) (g : Typed) → Phrase (typed_member r) us g → Phrase (typed_form c r) us g
unfolding constructed_or
typed-in true r us g p = at-right (turn constructed constructor_signature) p
typed-in false r us g p = p

rest-in : (k : TypeKind) (us : List Symbol) (v : List Around × (Option ValueText × List Declarator)) → Phrase field_rest us v → Phrase (rest_form (rest_in k)) us (fields_named v)
rest-in kind.Enum us v p = at-right (turn method_named method_signature) (turned fields_named p)
rest-in kind.Class us v p = at-right (turn method_named method_signature) (turned fields_named p)
rest-in kind.AnnotationType us v p = at-right (turn method_named element_signature) (turned fields_named p)
rest-in kind.Interface us v p = at-right (turn method_named method_signature) (turned fields_named p)

-- these symbols declare this many fields
pub record FieldsMade (k : TypeKind) (us : List Symbol) (count : ℕ) : Type 0 where
  pub value : Unmodified
  pub whole : Phrase (unmodified_form k) us value
  pub total : count_of value ≡ count

of-primitive : (k : TypeKind) (a b c d back : List Symbol) (x : PrimitiveKind) (ds es : List Around) (n : NameAt) (v : Option ValueText × List Declarator)
    → Phrase primitive_type a x → Phrase (many dim) b ds → Phrase name_at c n → Phrase (many dim) d es → Phrase value_or_end back v → FieldsMade k ((a ++ b) ++ (c ++ (d ++ back))) (suc (length v.1))
unfolding primitive_member field_rest
of-primitive k a b c d back x ds es n v p q r s w =
    record {
      value = _;
      whole = primitive-in k _ _ (turned primitive_named (paired (turned primitive_of_dims (paired p q)) (paired r (rest-in k (d ++ back) (es, v) (paired s w)))));
      total = refl;
    }

of-class : (k : TypeKind) (a b c d e f back : List Symbol) (m n : NameAt) (o : Option (List TypeText)) (parts : List NamedPart) (ds es : List Around) (v : Option ValueText × List Declarator)
    → Phrase name_at a m → Phrase (maybe (nest type_arguments)) b o → Phrase (many next_part) c parts → Phrase (many dim) d ds → Phrase name_at e n → Phrase (many dim) f es → Phrase value_or_end back v
    → FieldsMade k (a ++ (b ++ (c ++ (d ++ (e ++ (f ++ back)))))) (suc (length v.1))
unfolding named_member typed_member field_rest
of-class k a b c d e f back m n o parts ds es v p q r s t w z =
    record {
      value = _;
      whole = named-in k _ _ (turned typed_named (paired p (typed-in (constructors_in k) (rest_in k) _ _ (turned typed_as (paired q (paired r (paired s (paired t (rest-in k (f ++ back) (es, v) (paired w z))))))))));
      total = refl;
    }

pub fields-in : (k : TypeKind) (front back : List Symbol) (v : Option ValueText × List Declarator) → Phrase field_front front tt → Phrase value_or_end back v → FieldsMade k (front ++ back) (suc (length v.1))
unfolding type_form base_type class_type named_part
fields-in k front back v p w =
    let t = un-turn p in
    let q = un-pair t.whole in
    let r = un-pair q.second in
    let s = un-turn q.first in
    let a = un-pair s.whole in
    let m = name-placed r.first in
    let rest : List Symbol = r.front ++ (r.back ++ back) in
    let cut : front ++ back ≡ (a.front ++ a.back) ++ rest = under q.front _ back refl q.parts ∙ (ap (λ (zs : List Symbol). zs ++ (q.back ++ back)) a.parts ∙ ap (λ (zs : List Symbol). (a.front ++ a.back) ++ zs) (under r.front _ back refl r.parts)) in
    subst (λ (zs : List Symbol). FieldsMade k zs (suc (length v.1))) (sym cut)
    (⊎_elim
    (λ (z : Phrase (turn base.Primitive primitive_type) a.front s.value.0).
    let y = un-turn z in
    of-primitive k a.front a.back r.front r.back back y.value s.value.1 t.value.1.1 m.value v y.whole a.second m.whole r.second w)
    (λ (z : Phrase (turn base.Named class_type) a.front s.value.0).
    let y = un-turn z in
    let c = un-turn y.whole in
    let b = un-pair c.whole in
    let d = un-turn b.first in
    let e = un-pair d.whole in
    let l = name-placed e.first in
    let all : (a.front ++ a.back) ++ rest ≡ e.front ++ (e.back ++ (b.back ++ (a.back ++ rest))) =
    append_assoc a.front a.back rest ∙ (under b.front _ (a.back ++ rest) refl b.parts ∙ under e.front _ (b.back ++ (a.back ++ rest)) refl e.parts) in
    subst (λ (zs : List Symbol). FieldsMade k zs (suc (length v.1))) (sym all)
    (of-class k e.front e.back b.back a.back r.front r.back back l.value m.value d.value.1 c.value.1 s.value.1 t.value.1.1 v l.whole e.second b.second a.second m.whole r.second w))
    (un-either a.first))
