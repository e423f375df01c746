-- When a type is full, and how far it goes, by its heading and what stands behind it.
use Rattle.std.proofs.Common.{◌≡◌, ◌==◌, ℕ, ◌+◌, ◌*◌, true, false, List, [], ◌∷◌, ◌++◌, length, Result, Ok, Err, ◌⊎◌, inl, inr, ⊎_elim, refl, sym, ap, subst, ◌∙◌, append_assoc, arith}
use Rattle.std.proofs.lemmas.Bool.{eqb-true}
use Rattle.apt_base.specs.declared.memory.NoMemory.{NoMemory}
use Rattle.decl_tree.specs.declared.declaration.TypeKind.{TypeKind}
use Rattle.decl_tree.specs.declared.declaration.TypeKind.TheVariants as kind
use Rattle.decl_grammar.specs.declared.symbol.Symbol.{Symbol}
use Rattle.decl_grammar.specs.declared.written.MemberAt.{MemberAt}
use Rattle.decl_grammar.specs.declared.written.TypeRest.{TypeRest}
use Rattle.decl_grammar.specs.Reading.{starts}
use Rattle.decl_grammar.specs.Form.{Form, first, nullable, either}
use Rattle.decl_grammar.specs.Types.{name}
use Rattle.decl_grammar.specs.Grammar.{class_form, interface_form, annotation_form, enum_form, type_rest}
use Rattle.decl_grammar.proofs.OneToken.{not_both}
use Rattle.decl_limits.specs.Children.{Then, IsFull, NextConstant, declared_children, class_heading, interface_heading, annotation_heading, enum_heading, whole_constants}
use Rattle.decl_children.specs.Fronts.{SomeFront, Passes}
use Rattle.decl_children.specs.Members.{TypeCrowds, MembersFull, HeadingCrowds, TooLong, heading_of, closed_members}
use Rattle.decl_children.specs.TypeWalks.{Walks, ParamsOver, has_constructor, added_to, MembersOver, MembersEnd, TypeEnds}
use Rattle.decl_children.specs.KindWords.{front_word, is_enum}
use Rattle.decl_children.specs.declared.walks.Walk.{Walk}
use Rattle.decl_children.specs.declared.walks.Walk.TheVariants as walk
use Rattle.decl_crossings.proofs.PhraseReads.{read-phrase}
use Rattle.decl_children.proofs.CommaRows.{item-starts}
use Rattle.decl_children.proofs.Phrases.{Phrase, at-left, at-right, un-either}
use Rattle.decl_children.proofs.Thens.{then-back}
use Rattle.decl_children.proofs.TypeCases.{TypeCase, in_params, in_constants, in_members, in_added, type-case, case-type}
use Rattle.decl_children.proofs.TypeReads.{heading-ends, heading-read, whole-read}
use Rattle.decl_children.proofs.Passages.{passes-reads, passes-rest, passes-value}
use Rattle.decl_children.proofs.TypeSplits.{Split, Joined, class-out, class-in, interface-out, interface-in, annotation-out, annotation-in}

pub walks-as : (P R : Type 0) (Q S : List Symbol → Type 0) (r : Result Walk NoMemory) → (P → R) → (R → P) → ((rest : List Symbol) → Q rest → S rest) → ((rest : List Symbol) → S rest → Q rest) → Walks P Q r → Walks R S r
walks-as P R Q S (Ok walk.Full) there back on off w = there w
walks-as P R Q S (Ok walk.Ended) there back on off w = (λ r. w.0 (back r), λ rest s. w.1 rest (off rest s))
walks-as P R Q S (Ok (walk.Behind rest)) there back on off w = (λ r. w.0 (back r), on rest.now w.1)
walks-as P R Q S (Err e) there back on off w = tt

-- ---- the four kinds

abbrev pub form_of : TypeKind → Form TypeRest
form_of kind.Enum = enum_form
form_of kind.Class = class_form
form_of kind.AnnotationType = annotation_form
form_of kind.Interface = interface_form

abbrev pub Of : TypeRest → List Symbol → Type 0
Of x us = (k : TypeKind) × Phrase (form_of k) us x

pub rest-out : (us : List Symbol) (x : TypeRest) → Phrase type_rest us x → Of x us
unfolding type_rest
rest-out us x p =
    ⊎_elim (λ (q : Phrase class_form us x). (kind.Class, q))
    (λ (q : Phrase (either interface_form (either annotation_form enum_form)) us x).
    ⊎_elim (λ (r : Phrase interface_form us x). (kind.Interface, r))
    (λ (r : Phrase (either annotation_form enum_form) us x). ⊎_elim (λ (s : Phrase annotation_form us x). (kind.AnnotationType, s)) (λ (s : Phrase enum_form us x). (kind.Enum, s)) (un-either r))
    (un-either q))
    (un-either p)

pub rest-in : (k : TypeKind) (us : List Symbol) (x : TypeRest) → Phrase (form_of k) us x → Phrase type_rest us x
unfolding type_rest
rest-in kind.Enum us x p = at-right class_form (at-right interface_form (at-right annotation_form p))
rest-in kind.Class us x p = at-left (either interface_form (either annotation_form enum_form)) p
rest-in kind.AnnotationType us x p = at-right class_form (at-right interface_form (at-left enum_form p))
rest-in kind.Interface us x p = at-right class_form (at-left (either annotation_form enum_form) p)

pub form-first : (k : TypeKind) → first (form_of k) ≡ front_word k ∷ []
unfolding name class_form interface_form annotation_form enum_form
form-first kind.Enum = refl
form-first kind.Class = refl
form-first kind.AnnotationType = refl
form-first kind.Interface = refl

pub form-never : (k : TypeKind) → nullable (form_of k) ≡ false
unfolding name class_form interface_form annotation_form enum_form
form-never kind.Enum = refl
form-never kind.Class = refl
form-never kind.AnnotationType = refl
form-never kind.Interface = refl

heading-first : (k : TypeKind) → first (heading_of k) ≡ front_word k ∷ []
unfolding name class_heading interface_heading annotation_heading enum_heading whole_constants
heading-first kind.Enum = refl
heading-first kind.Class = refl
heading-first kind.AnnotationType = refl
heading-first kind.Interface = refl

pub heading-never : (k : TypeKind) → nullable (heading_of k) ≡ false
unfolding name class_heading interface_heading annotation_heading enum_heading whole_constants
heading-never kind.Enum = refl
heading-never kind.Class = refl
heading-never kind.AnnotationType = refl
heading-never kind.Interface = refl

apart : {A : Type 0} (m n : ℕ) → (m == n) ≡ false → (n == n) ≡ true → m ≡ n → A
apart m n f t e = not_both (m == n) (ap (λ (i : ℕ). i == n) e ∙ t) f

word-kind : (j k : TypeKind) → front_word j ≡ front_word k → j ≡ k
word-kind kind.Enum kind.Enum e = refl
word-kind kind.Enum kind.Class e = apart 25 18 refl refl e
word-kind kind.Enum kind.AnnotationType e = apart 25 9 refl refl e
word-kind kind.Enum kind.Interface e = apart 25 37 refl refl e
word-kind kind.Class kind.Enum e = apart 18 25 refl refl e
word-kind kind.Class kind.Class e = refl
word-kind kind.Class kind.AnnotationType e = apart 18 9 refl refl e
word-kind kind.Class kind.Interface e = apart 18 37 refl refl e
word-kind kind.AnnotationType kind.Enum e = apart 9 25 refl refl e
word-kind kind.AnnotationType kind.Class e = apart 9 18 refl refl e
word-kind kind.AnnotationType kind.AnnotationType e = refl
word-kind kind.AnnotationType kind.Interface e = apart 9 37 refl refl e
word-kind kind.Interface kind.Enum e = apart 37 25 refl refl e
word-kind kind.Interface kind.Class e = apart 37 18 refl refl e
word-kind kind.Interface kind.AnnotationType e = apart 37 9 refl refl e
word-kind kind.Interface kind.Interface e = refl

-- one word begins one kind
pub same-kind : (j k : TypeKind) (ts : List Symbol) → starts (front_word j ∷ []) ts ≡ true → starts (front_word k ∷ []) ts ≡ true → j ≡ k
same-kind j k [] s r = absurd cc
same-kind j k (t ∷ ts) s r = word-kind j k (sym (eqb-true t.sort (front_word j) s) ∙ eqb-true t.sort (front_word k) r)

pub starts-as : {A : Type 0} (f : Form A) (n : ℕ) → first f ≡ n ∷ [] → nullable f ≡ false → (ts us rest : List Symbol) (x : A) → ts ≡ us ++ rest → Phrase f us x → starts (n ∷ []) ts ≡ true
starts-as f n is never ts us rest x e p = ap (λ (zs : List Symbol). starts (n ∷ []) zs) e ∙ (ap (λ (ks : List ℕ). starts ks (us ++ rest)) (sym is) ∙ item-starts f never us rest x p.is)

-- ---- a class, an interface, an annotation interface

split-out : (k : TypeKind) → is_enum k ≡ false → (us : List Symbol) (x : TypeRest) → Phrase (form_of k) us x → Split k (heading_of k) (closed_members k) us (declared_children x)
split-out kind.Enum n us x p = absurd cc
split-out kind.Class n us x p = class-out us x p
split-out kind.AnnotationType n us x p = annotation-out us x p
split-out kind.Interface n us x p = interface-out us x p

split-in : (k : TypeKind) → is_enum k ≡ false → (front back : List Symbol) (n : ℕ) (ms : List MemberAt) → Phrase (heading_of k) front n → Phrase (closed_members k) back ms → Joined (form_of k) (front ++ back) (n + length ms + added_to k (has_constructor ms))
split-in kind.Enum e front back n ms p q = absurd cc
split-in kind.Class e front back n ms p q = class-in front back n ms p q
split-in kind.AnnotationType e front back n ms p q = annotation-in front back n ms p q
split-in kind.Interface e front back n ms p q = interface-in front back n ms p q

-- in its type parameters, or behind its heading
abbrev pub HeadedOver : TypeKind → List Symbol → Type 0
HeadedOver k ts = (n : ℕ) × (mid : List Symbol) × Passes (heading_of k) ts n mid × MembersOver k n false mid

abbrev pub HeadedEnd : TypeKind → List Symbol → List Symbol → Type 0
HeadedEnd k ts rest = (n : ℕ) × (mid : List Symbol) × Passes (heading_of k) ts n mid × MembersEnd k mid rest

-- a whole type of this kind, by its heading and its members
record Halves (k : TypeKind) (ts : List Symbol) (x : TypeRest) (rest : List Symbol) : Type 0 where
  count : ℕ
  mid : List Symbol
  members : List MemberAt
  heading : Passes (heading_of k) ts count mid
  others : Passes (closed_members k) mid members rest
  total : declared_children x ≡ count + length members + added_to k (has_constructor members)

halves : (k : TypeKind) → is_enum k ≡ false → (ts rest : List Symbol) (x : TypeRest) → starts (front_word k ∷ []) ts ≡ true → Passes type_rest ts x rest → Halves k ts x rest
halves k n ts rest x s (us, e, is) =
    let o = rest-out us x (record { is = is }) in
    let j = same-kind o.0 k ts (starts-as (form_of o.0) (front_word o.0) (form-first o.0) (form-never o.0) ts us rest x e o.1) s in
    let p = split-out k n us x (subst (λ (i : TypeKind). Phrase (form_of i) us x) j o.1) in
    record {
      count = p.count;
      mid = p.back ++ rest;
      members = p.members;
      heading = (p.front, e ∙ (ap (λ (zs : List Symbol). zs ++ rest) p.parts ∙ append_assoc p.front p.back rest), p.heading.is);
      others = (p.back, refl, p.others.is);
      total = p.total;
    }

joins : (k : TypeKind) → is_enum k ≡ false → (ts mid rest : List Symbol) (n : ℕ) (ms : List MemberAt) → Passes (heading_of k) ts n mid → Passes (closed_members k) mid ms rest
    → (x : TypeRest) × Passes type_rest ts x rest × (declared_children x ≡ n + length ms + added_to k (has_constructor ms))
joins k e ts mid rest n ms (us, cut, is) (vs, parts, that) =
    let j = split-in k e us vs n ms (record { is = is }) (record { is = that }) in
    let whole = rest-in k (us ++ vs) j.value j.whole in
    (j.value, (us ++ vs, cut ∙ (ap (λ (zs : List Symbol). us ++ zs) parts ∙ sym (append_assoc us vs rest)), whole.is), j.total)

pub headed-ends : (k : TypeKind) → is_enum k ≡ false → (ts rest : List Symbol) → starts (front_word k ∷ []) ts ≡ true → TypeEnds ts rest → HeadedEnd k ts rest
headed-ends k n ts rest s (x, p) = let h = halves k n ts rest x s p in (h.count, h.mid, h.heading, (h.members, h.others))

pub ends-headed : (k : TypeKind) → is_enum k ≡ false → (ts mid rest : List Symbol) (n : ℕ) → Passes (heading_of k) ts n mid → MembersEnd k mid rest → TypeEnds ts rest
ends-headed k e ts mid rest n p (ms, q) = let j = joins k e ts mid rest n ms p q in (j.0, j.1)

enum-word : first enum_heading ≡ 25 ∷ []
unfolding name enum_heading
enum-word = refl

enum-never : nullable enum_heading ≡ false
unfolding name enum_heading
enum-never = refl

-- where constants are full, an enum begins
constants-start : (ts : List Symbol) → SomeFront (Then enum_heading (λ (x : Unit {0}) us. IsFull NextConstant 0 us)) ts → starts (25 ∷ []) ts ≡ true
constants-start ts (us, vs, e, (front, back, x, cut, is, full)) =
    starts-as enum_heading 25 enum-word enum-never ts front (back ++ vs) x (e ∙ (ap (λ (zs : List Symbol). zs ++ vs) cut ∙ append_assoc front back vs)) (record { is = is })

pub heading-start : (k : TypeKind) (ts : List Symbol) → HeadingCrowds k ts → starts (front_word k ∷ []) ts ≡ true
heading-start k ts (us, vs, e, (front, back, n, cut, is, full)) =
    starts-as (heading_of k) (front_word k) (heading-first k) (heading-never k) ts front (back ++ vs) n (e ∙ (ap (λ (zs : List Symbol). zs ++ vs) cut ∙ append_assoc front back vs)) (record { is = is })

no-enum : (k : TypeKind) → is_enum k ≡ false → (ts : List Symbol) → starts (front_word k ∷ []) ts ≡ true → starts (25 ∷ []) ts ≡ true → ⊥
no-enum k n ts s r = not_both (is_enum k) (ap (λ (j : TypeKind). is_enum j) (same-kind k kind.Enum ts s r)) n

pub headed-goes : (k : TypeKind) → is_enum k ≡ false → (ts : List Symbol) → starts (front_word k ∷ []) ts ≡ true → TypeCrowds ts → ParamsOver ts ⊎ HeadedOver k ts
headed-goes k n ts s c = go (type-case ts c)
  where
    at : (j : TypeKind) → j ≡ k → HeadingCrowds j ts → HeadedOver k ts
    at j e h =
        let b = heading-read k (3 * length ts) ts (omega arith) (subst (λ (i : TypeKind). HeadingCrowds i ts) e h) in
        (b.value, b.rest, read-phrase (heading_of k) (3 * length ts) ts b.value b.rest b.there, inl b.holds)

    added : SomeFront TooLong ts → HeadedOver k ts
    added t =
        let w = whole-read (3 * length ts) ts (omega arith) t in
        let h = halves k n ts w.1 w.0 s (read-phrase type_rest (3 * length ts) ts w.0 w.1 w.2) in
        (h.count, h.mid, h.heading, inr (h.members, w.1, h.others, omega (arith, w.3, h.total)))

    go : TypeCase ts → ParamsOver ts ⊎ HeadedOver k ts
    go (in_params p) = inl p
    go (in_constants p) = absurd (no-enum k n ts s (constants-start ts p))
    go (in_members j h) = inr (at j (same-kind j k ts (heading-start j ts h) s) h)
    go (in_added t) = inr (added t)

pub params-full : (ts : List Symbol) → ParamsOver ts → TypeCrowds ts
params-full ts p = case-type ts (in_params p)

pub headed-back : (k : TypeKind) → is_enum k ≡ false → (ts mid : List Symbol) (n : ℕ) → Passes (heading_of k) ts n mid → MembersOver k n false mid → TypeCrowds ts
headed-back k e ts mid n p (inl crowd) =
    let there = passes-reads (heading_of k) (heading-ends k) (3 * length ts) ts n mid (omega arith) p in
    case-type ts (in_members k (then-back (3 * length ts) (heading_of k) (λ (j : ℕ) us. MembersFull k j us) ts n mid there crowd))
headed-back k e ts mid n p (inr (ms, rest, q, lt)) =
    let j = joins k e ts mid rest n ms p q in
    case-type ts (in_added (j.1.0, rest, j.1.1, (j.0, j.1.2, omega (arith, lt, j.2))))

-- what is read is one thing
pub headed-as : (k : TypeKind) (ts mid : List Symbol) (n : ℕ) → Passes (heading_of k) ts n mid → HeadedOver k ts → MembersOver k n false mid
headed-as k ts mid n p (m, at, q, over) =
    subst (λ (zs : List Symbol). MembersOver k n false zs) (passes-rest (heading_of k) (heading-ends k) ts m n at mid q p)
    (subst (λ (j : ℕ). MembersOver k j false at) (passes-value (heading_of k) (heading-ends k) ts m n at mid q p) over)

pub end-as : (k : TypeKind) (ts mid rest : List Symbol) (n : ℕ) → Passes (heading_of k) ts n mid → HeadedEnd k ts rest → MembersEnd k mid rest
end-as k ts mid rest n p (m, at, q, over) = subst (λ (zs : List Symbol). MembersEnd k zs rest) (passes-rest (heading_of k) (heading-ends k) ts m n at mid q p) over
