-- The members of a type are legal: behind what opens the type, and the members before it, none is full in itself.
use Rattle.std.proofs.Common.{◌≡◌, ◌+◌, ◌≤◌, ℕ, zero, suc, Bool, true, false, List, [], ◌∷◌, ◌++◌, inl, inr, refl, sym, ap, subst, ◌∙◌, append_assoc}
use Rattle.std.specs.Prelude.{nat_le}
use Rattle.std.specs.List.{list_all}
use Rattle.std.proofs.lemmas.Bool.{leb-true, leb-false}
use Rattle.std.proofs.lemmas.List.{append-nil}
use Rattle.apt_base.specs.Limits.{max_children}
use Rattle.decl_tree.specs.declared.declaration.TypeKind.{TypeKind}
use Rattle.decl_tree.specs.declared.declaration.TypeKind.TheVariants as kind
use Rattle.decl_grammar.specs.declared.symbol.Symbol.{Symbol}
use Rattle.decl_grammar.specs.declared.written.MemberAt.{MemberAt}
use Rattle.decl_grammar.specs.Form.{Form, many, Each, Is}
use Rattle.decl_grammar.specs.Grammar.{member_form, joined_lists}
use Rattle.decl_grammar.specs.Rule.{WholeAt}
use Rattle.decl_grammar.specs.File.{IsShallow}
use Rattle.decl_grammar.proofs.OneToken.{both}
use Rattle.decl_limits.specs.Texts.{AreTexts}
use Rattle.decl_limits.specs.Children.{member_children, class_heading, interface_heading, annotation_heading, members_there, whole_members, whole_constants, open_type, TypeFull}
use Rattle.decl_limits.proofs.LegalTexts.{and-true, texts-front, texts-back}
use Rattle.decl_limits.proofs.LegalForms.{shallow-first, shallow-rest}
use Rattle.decl_limits.proofs.LegalItems.{member_test, SingleFew}
use Rattle.decl_limits.proofs.LegalDeclarations.{TypeSafe, InsideSafe, member_named, AllNamed, AllLegal, NestedRows, member-has}

-- what opens a type of this kind
abbrev pub heading_of : TypeKind → Form ℕ
heading_of kind.Class = class_heading
heading_of kind.Interface = interface_heading
heading_of kind.AnnotationType = annotation_heading
heading_of kind.Enum = whole_constants

abbrev Opens : ℕ → TypeKind → List Symbol → Type 0
Opens h k ts = (n : ℕ) × Is (WholeAt h) (open_type k) ts n

pub one-more : {A : Type 0} (P : List Symbol → A → Type 0) (us vs : List Symbol) (xs : List A) (x : A) → Each P us xs → P vs x → Each P (us ++ vs) (xs ++ x ∷ [])
one-more P us vs [] x each is = (vs, [], ap (λ (ss : List Symbol). ss ++ vs) each ∙ sym (append-nil vs), is, refl)
one-more P us vs (y ∷ ys) x each is =
    (each.0, each.1 ++ vs, ap (λ (ss : List Symbol). ss ++ vs) each.2 ∙ append_assoc each.0 each.1 vs, each.3, one-more P each.1 vs ys x each.4 is)

-- a heading and the members behind it
abbrev pub OpenParts : ℕ → TypeKind → List Symbol → Type 0
OpenParts h k ts = (us : List Symbol) × (vs : List Symbol) × (n : ℕ) × (mss : List (List MemberAt)) × (ts ≡ us ++ vs) × Is (WholeAt h) (heading_of k) us n × Each (Is (WholeAt h) (member_form k)) vs mss

parts-open : (h : ℕ) (k : TypeKind) (ts : List Symbol) → OpenParts h k ts → Opens h k ts
unfolding open_type whole_members
parts-open h kind.Class ts p = (p.2 + members_there p.3, ((p.2, members_there p.3), (p.0, p.1, p.4, p.5, (p.3, p.6, refl)), refl))
parts-open h kind.Interface ts p = (p.2 + members_there p.3, ((p.2, members_there p.3), (p.0, p.1, p.4, p.5, (p.3, p.6, refl)), refl))
parts-open h kind.AnnotationType ts p = (p.2 + members_there p.3, ((p.2, members_there p.3), (p.0, p.1, p.4, p.5, (p.3, p.6, refl)), refl))
parts-open h kind.Enum ts p = (p.2 + members_there p.3, ((p.2, members_there p.3), (p.0, p.1, p.4, p.5, (p.3, p.6, refl)), refl))

more-open : (h : ℕ) (k : TypeKind) (ts us : List Symbol) (ms : List MemberAt) → OpenParts h k ts → Is (WholeAt h) (member_form k) us ms → OpenParts h k (ts ++ us)
more-open h k ts us ms p is =
    (p.0, p.1 ++ us, p.2, p.3 ++ ms ∷ [], ap (λ (ss : List Symbol). ss ++ us) p.4 ∙ append_assoc p.0 p.1 us, p.5, one-more (Is (WholeAt h) (member_form k)) p.1 us p.3 ms p.6 is)

pub heading-parts : (h : ℕ) (k : TypeKind) (ts : List Symbol) (n : ℕ) → Is (WholeAt h) (heading_of k) ts n → OpenParts h k ts
heading-parts h k ts n is = (ts, [], n, [], sym (append-nil ts), is, refl)

-- ---- a member behind them

-- a place in some symbols is one in all
pub place-on : (whole pre us rest a b c d : List Symbol) → whole ≡ pre ++ (us ++ rest) → us ≡ a ++ b → b ≡ c ++ d → whole ≡ (pre ++ (a ++ c)) ++ (d ++ rest)
place-on whole pre us rest a b c d e p q =
    let inner : us ≡ (a ++ c) ++ d = p ∙ (ap (λ (ss : List Symbol). a ++ ss) q ∙ sym (append_assoc a c d)) in
    let behind : us ++ rest ≡ (a ++ c) ++ (d ++ rest) = ap (λ (ss : List Symbol). ss ++ rest) inner ∙ append_assoc (a ++ c) d rest in
    e ∙ (ap (λ (ss : List Symbol). pre ++ ss) behind ∙ sym (append_assoc pre (a ++ c) (d ++ rest)))

member-safe : (h : ℕ) (k : TypeKind) (whole pre us rest : List Symbol) → whole ≡ pre ++ (us ++ rest) → TypeSafe whole → Opens h k pre → InsideSafe us
unfolding TypeFull
member-safe h k whole pre us rest e safe begun a b m phrase p c d g q full =
    safe (pre ++ (a ++ c)) (d ++ rest) (suc g) (place-on whole pre us rest a b c d e p q)
    (inr (inr (inl (k, (pre, a ++ c, begun.0, refl, (h, begun.1), inr (inr (inr (a, c, m, refl, phrase, inl full))))))))

single-few : (h : ℕ) (k : TypeKind) (whole pre us rest : List Symbol) (ms : List MemberAt) → whole ≡ pre ++ (us ++ rest) → TypeSafe whole → Opens h k pre → Is (WholeAt h) (member_form k) us ms → SingleFew ms
unfolding TypeFull
single-few h k whole pre us rest ms e safe begun is m same = go (nat_le (member_children m) max_children) refl
  where
    go : (c : Bool) → nat_le (member_children m) max_children ≡ c → member_children m ≤ max_children
    go true few = leb-true (member_children m) max_children few
    go false many_more =
        absurd (safe (pre ++ us) rest (suc zero) (e ∙ sym (append_assoc pre us rest))
        (inr (inr (inl (k, (pre, us, begun.0, refl, (h, begun.1), inr (inr (inl (m, (h, subst (λ (xs : List MemberAt). Is (WholeAt h) (member_form k) us xs) same is), leb-false (member_children m) max_children many_more)))))))))

-- ---- all members

pub all-front : {A : Type 0} (p : A → Bool) (xs ys : List A) → list_all p (xs ++ ys) ≡ true → list_all p xs ≡ true
all-front p [] ys e = refl
all-front p (x ∷ xs) ys e = let z = both (p x) (list_all p (xs ++ ys)) e in and-true z.0 (all-front p xs ys z.1)

pub all-back : {A : Type 0} (p : A → Bool) (xs ys : List A) → list_all p (xs ++ ys) ≡ true → list_all p ys ≡ true
all-back p [] ys e = e
all-back p (x ∷ xs) ys e = all-back p xs ys (both (p x) (list_all p (xs ++ ys)) e).1

pub all-both : {A : Type 0} (p : A → Bool) (xs ys : List A) → list_all p xs ≡ true → list_all p ys ≡ true → list_all p (xs ++ ys) ≡ true
all-both p [] ys d e = e
all-both p (x ∷ xs) ys d e = let z = both (p x) (list_all p xs) d in and-true z.0 (all-both p xs ys z.1 e)

pub members-legal : (h room : ℕ) → NestedRows h → (k : TypeKind) (whole pre rest : List Symbol) (mss : List (List MemberAt)) (ts : List Symbol) → whole ≡ pre ++ (ts ++ rest) → TypeSafe whole → OpenParts h k pre
    → AreTexts ts → IsShallow (many (member_form k)) room ts → Each (Is (WholeAt h) (member_form k)) ts mss → (start : ℕ) → AllNamed start (joined_lists mss) → AllLegal room start (joined_lists mss)
members-legal h room rows k whole pre rest [] ts e safe begun a sh each start named = refl
members-legal h room rows k whole pre rest (ms ∷ mss) ts e safe begun a sh each start named =
    let us = each.0 in
    let vs = each.1 in
    let here : whole ≡ pre ++ (us ++ (vs ++ rest)) = e ∙ ap (λ (ss : List Symbol). pre ++ ss) (ap (λ (ss : List Symbol). ss ++ rest) each.2 ∙ append_assoc us vs rest) in
    let next : whole ≡ (pre ++ us) ++ (vs ++ rest) = here ∙ sym (append_assoc pre us (vs ++ rest)) in
    let opens = parts-open h k pre begun in
    let first = (member-has h room rows k).there us ms (texts-front ts us vs each.2 a) (shallow-first (member_form k) room ts us vs each.2 sh) each.3
    (member-safe h k whole pre us (vs ++ rest) here safe opens) start (all-front (member_named start) ms (joined_lists mss) named) (single-few h k whole pre us (vs ++ rest) ms here safe opens each.3) in
    let others = members-legal h room rows k whole (pre ++ us) rest mss vs next safe (more-open h k pre us ms begun each.3) (texts-back ts us vs each.2 a) (shallow-rest (member_form k) room h ts us vs ms each.2 each.3 sh) each.4
    start (all-back (member_named start) ms (joined_lists mss) named) in
    all-both (member_test room start) ms (joined_lists mss) first others
