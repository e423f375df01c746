-- A type is full in its type parameters, in its constants, behind its heading, or by what the language adds to it.
use Rattle.std.proofs.Common.{ℕ, zero, suc, ◌+◌, List, ◌++◌, inl, inr, refl, sym, ap, subst, ◌∙◌, append_assoc}
use Rattle.decl_tree.specs.declared.declaration.TypeKind.{TypeKind}
use Rattle.decl_tree.specs.declared.declaration.TypeKind.TheVariants as kind
use Rattle.decl_grammar.specs.declared.symbol.Symbol.{Symbol}
use Rattle.decl_grammar.specs.Form.{pair, turn}
use Rattle.decl_limits.specs.Children.{Then, IsFull, NextTypeParam, NextConstant, enum_heading, whole_members, both, open_type, generic_name, MemberFull, TypeFull}
use Rattle.decl_children.specs.Fronts.{SomeFront}
use Rattle.decl_children.specs.Members.{InType, TypeCrowds, MembersFull, heading_of, TooLong, HeadingCrowds}
use Rattle.decl_children.proofs.Phrases.{Phrase, paired, turned, un-pair, un-turn}

-- ---- a member, whatever stands in the types in it

pub member-wider : (h n : ℕ) (k : TypeKind) (us : List Symbol) → MemberFull (TypeFull h) k n us → MemberFull InType k n us
member-wider h n k us (inl m) = inl m
member-wider h n k us (inr (inl m)) = inr (inl m)
member-wider h n k us (inr (inr (inl m))) = inr (inr (inl m))
member-wider h n k us (inr (inr (inr (front, back, x, cut, is, inl full)))) = inr (inr (inr (front, back, x, cut, is, inl (h, full))))
member-wider h n k us (inr (inr (inr (front, back, x, cut, is, inr full)))) = inr (inr (inr (front, back, x, cut, is, inr full)))

pub member-within : (n : ℕ) (k : TypeKind) (us : List Symbol) → MemberFull InType k n us → (h : ℕ) × MemberFull (TypeFull h) k n us
member-within n k us (inl m) = (0, inl m)
member-within n k us (inr (inl m)) = (0, inr (inl m))
member-within n k us (inr (inr (inl m))) = (0, inr (inr (inl m)))
member-within n k us (inr (inr (inr (front, back, x, cut, is, inl full)))) = (full.0, inr (inr (inr (front, back, x, cut, is, inl full.1))))
member-within n k us (inr (inr (inr (front, back, x, cut, is, inr full)))) = (0, inr (inr (inr (front, back, x, cut, is, inr full))))

-- ---- a heading, and members behind it

heading-out : (k : TypeKind) (us : List Symbol) (n : ℕ) → Phrase (open_type k) us n → Phrase (turn both (pair (heading_of k) (whole_members k))) us n
unfolding open_type
heading-out kind.Enum us n p = p
heading-out kind.Class us n p = p
heading-out kind.AnnotationType us n p = p
heading-out kind.Interface us n p = p

heading-in : (k : TypeKind) (us : List Symbol) (n : ℕ) → Phrase (turn both (pair (heading_of k) (whole_members k))) us n → Phrase (open_type k) us n
unfolding open_type
heading-in kind.Enum us n p = p
heading-in kind.Class us n p = p
heading-in kind.AnnotationType us n p = p
heading-in kind.Interface us n p = p

pub open-out : (h : ℕ) (k : TypeKind) (us : List Symbol) → Then (open_type k) (MemberFull (TypeFull h) k) us → Then (heading_of k) (λ (n : ℕ) vs. MembersFull k n vs) us
open-out h k us (front, back, n, cut, is, full) =
    let t = un-turn (heading-out k front n (record { is = is })) in
    let q = un-pair t.whole in (
      q.front,
      q.back ++ back,
      t.value.0,
      cut ∙ (ap (λ (zs : List Symbol). zs ++ back) q.parts ∙ append_assoc q.front q.back back),
      q.first.is,
      (q.back, back, t.value.1, refl, q.second.is, subst (λ (m : ℕ). MemberFull InType k m back) t.is_value (member-wider h n k back full)),
    )

pub open-in : (k : TypeKind) (us : List Symbol) → Then (heading_of k) (λ (n : ℕ) vs. MembersFull k n vs) us → (h : ℕ) × Then (open_type k) (MemberFull (TypeFull h) k) us
open-in k us (front, mid, n, cut, is, (inner, back, m, parts, that, full)) =
    let one : Phrase (heading_of k) front n = record { is = is } in
    let other : Phrase (whole_members k) inner m = record { is = that } in
    let all = heading-in k (front ++ inner) (both (n, m)) (turned both (paired one other)) in
    let w = member-within (n + m) k back full in
    (w.0, (front ++ inner, back, both (n, m), cut ∙ (ap (λ (zs : List Symbol). front ++ zs) parts ∙ sym (append_assoc front inner back)), all.is, w.1))

-- ---- the cases

pub data TypeCase (ts : List Symbol) : Type 0 where
  in_params : SomeFront (Then generic_name (λ (x : Unit {0}) us. IsFull NextTypeParam 0 us)) ts → TypeCase ts
  in_constants : SomeFront (Then enum_heading (λ (x : Unit {0}) us. IsFull NextConstant 0 us)) ts → TypeCase ts
  in_members : (k : TypeKind) → HeadingCrowds k ts → TypeCase ts
  in_added : SomeFront TooLong ts → TypeCase ts

pub type-case : (ts : List Symbol) → TypeCrowds ts → TypeCase ts
unfolding TypeFull
type-case ts (us, vs, e, (zero, full)) = absurd full
type-case ts (us, vs, e, (suc h, inl full)) = in_params (us, vs, e, full)
type-case ts (us, vs, e, (suc h, inr (inl full))) = in_constants (us, vs, e, full)
type-case ts (us, vs, e, (suc h, inr (inr (inl full)))) = in_members full.0 (us, vs, e, open-out h full.0 us full.1)
type-case ts (us, vs, e, (suc h, inr (inr (inr full)))) = in_added (us, vs, e, full)

pub case-type : (ts : List Symbol) → TypeCase ts → TypeCrowds ts
unfolding TypeFull
case-type ts (in_params (us, vs, e, full)) = (us, vs, e, (suc zero, inl full))
case-type ts (in_constants (us, vs, e, full)) = (us, vs, e, (suc zero, inr (inl full)))
case-type ts (in_members k (us, vs, e, full)) = let w = open-in k us full in (us, vs, e, (suc w.0, inr (inr (inl (k, w.1)))))
case-type ts (in_added (us, vs, e, full)) = (us, vs, e, (suc zero, inr (inr (inr full))))
