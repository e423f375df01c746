-- Annotations before a bracket, and before a type.
use Rattle.std.proofs.Common.{◌≡◌, ℕ, suc, Bool, true, false, cond, List, [], ◌∷◌, ◌++◌, ◌⊎◌, Some, None, refl, sym, ap, subst, ◌∙◌, inl, inr}
use Rattle.std.proofs.lemmas.Bool.{eqb-true}
use Rattle.std.proofs.lemmas.List.{append-nil}
use Rattle.decl_tree.specs.declared.annotation.AnnotationText.{AnnotationText}
use Rattle.decl_tree.specs.declared.annotation.ElementValuePair.{ElementValuePair}
use Rattle.apt_base.specs.declared.around.Around.{Around}
use Rattle.decl_grammar.specs.declared.symbol.Symbol.{Symbol}
use Rattle.decl_grammar.specs.Reading.{has, done, fault, ◌>>=◌, one_at, pass, skip}
use Rattle.decl_grammar.specs.Form.{names, ats, primitive_sorts, pair, turn, maybe, many, either, terminal, over, Each, Is, Begins}
use Rattle.decl_grammar.specs.Types.{sign, name_chain, annotations, annotation, annotation_body, annotation_arguments, no_pairs, pairs_or_value, first_pair, dim}
use Rattle.decl_grammar.specs.Expressions.{annotation_over, annotated_form}
use Rattle.decl_grammar.proofs.OneToken.{disjoint-has}
use Rattle.decl_grammar.proofs.Heights.{Whole, Started}
use Rattle.decl_grammar.proofs.OpenBrackets.{pass-done, pass-open}
use Rattle.decl_grammar.proofs.Effects.{in_brackets}
use Rattle.decl_grammar.proofs.EffectLemmas.{form-levels}
use Rattle.decl_grammar.proofs.Closed.{levels-any}
use Rattle.decl_grammar.proofs.Walks.{Phase, ready, marked, named_there, inside, shut, dims, typed, within_brackets, next_phase, Walks, walks-append, walks-dims, leads-shut, leads-inside, fresh, going, at-fresh, chain-walks, chain-begun, Goes, goes-behind, goes-at}
use Rattle.decl_grammar.specs.TokenNames as token

-- behind an annotation
abbrev pub ended : Phase → Bool
ended ready = false
ended marked = false
ended named_there = true
ended (inside ks) = false
ended shut = true
ended dims = false
ended typed = false

ended-fresh : (p : Phase) → ended p ≡ true → fresh p ≡ true
ended-fresh ready e = absurd cc
ended-fresh marked e = absurd cc
ended-fresh named_there e = refl
ended-fresh (inside ks) e = absurd cc
ended-fresh shut e = refl
ended-fresh dims e = absurd cc
ended-fresh typed e = absurd cc

fresh-going : (p : Phase) → fresh p ≡ true → going p ≡ true
fresh-going ready e = refl
fresh-going marked e = absurd cc
fresh-going named_there e = refl
fresh-going (inside ks) e = absurd cc
fresh-going shut e = refl
fresh-going dims e = absurd cc
fresh-going typed e = absurd cc

brackets-going : (ms : List ℕ) → going (within_brackets ms) ≡ true
brackets-going [] = refl
brackets-going (m ∷ ms) = refl

open-step : (t : Symbol) → has (61 ∷ []) t.sort ≡ true → next_phase named_there t ≡ Some (inside (62 ∷ []))
open-step t e = rw (disjoint-has (61 ∷ []) (69 ∷ []) t.sort refl e, e) refl

-- ---- the brackets of an annotation

arguments-walk : (us : List Symbol) (x : List ElementValuePair) → Is Whole annotation_arguments us x → Walks us named_there shut
unfolding annotation_arguments pairs_or_value first_pair
arguments-walk us x is =
    let q = is.1 in
    subst (λ (u : List Symbol). Walks u named_there shut) (sym (q.2 ∙ ap (λ (a : List Symbol). a ++ q.1) q.3.0))
    (inside (62 ∷ []), open-step is.0.0 q.3.1, leads-shut 62 [] q.1 (form-levels Whole levels-any in_brackets (either (turn no_pairs (sign token.close_parenthesis)) pairs_or_value) q.1 is.0.1 q.4 []))

over-walk : (us : List Symbol) → skip (61 ∷ []) us ≡ done tt [] → Walks us named_there shut
unfolding one_at
over-walk [] e = absurd cc
over-walk (t ∷ us) e = go (has (61 ∷ []) t.sort) refl e
  where
    go : (c : Bool) → has (61 ∷ []) t.sort ≡ c → (cond c (done t us) (fault (t ∷ us)) >>= λ t rest. pass (suc t.sort ∷ []) rest) ≡ done tt [] → Walks (t ∷ us) named_there shut
    go true p e =
        (inside (62 ∷ []), open-step t p, leads-shut 62 [] us (pass-done (62 ∷ []) [] us (refl, tt) (subst (λ (n : ℕ). pass (suc n ∷ []) us ≡ done tt []) (eqb-true t.sort 61 p) e)))
    go false p e = absurd cc

over-go : (us : List Symbol) → (skip (61 ∷ []) us ≡ fault []) ⊎ (skip (61 ∷ []) us ≡ done tt []) → Goes us named_there
unfolding one_at
over-go us (inr e) = (shut, refl, over-walk us e)
over-go [] (inl e) = (named_there, refl, refl)
over-go (t ∷ us) (inl e) = go (has (61 ∷ []) t.sort) refl e
  where
    go : (c : Bool) → has (61 ∷ []) t.sort ≡ c → (cond c (done t us) (fault (t ∷ us)) >>= λ t rest. pass (suc t.sort ∷ []) rest) ≡ fault [] → Goes (t ∷ us) named_there
    go true p e =
        let o = pass-open (62 ∷ []) [] us (refl, tt) (subst (λ (n : ℕ). pass (suc n ∷ []) us ≡ fault []) (eqb-true t.sort 61 p) e) in
        (within_brackets (o.0 ++ []), brackets-going (o.0 ++ []), (inside (62 ∷ []), open-step t p, leads-inside 62 [] (o.0 ++ []) us o.1))
    go false p e = absurd cc

-- ---- one annotation

-- what ends an annotation, and what is begun of it
abbrev Ends : List Symbol → Phase → Type 0
Ends us p = (q : Phase) × (ended q ≡ true) × Walks us p q

ends-at : (us vs : List Symbol) (p : Phase) → us ≡ vs → Ends vs p → Ends us p
ends-at us vs p e g = subst (λ (u : List Symbol). Ends u p) (sym e) g

ends-behind : (us vs : List Symbol) (p q : Phase) → Walks us p q → Ends vs q → Ends (us ++ vs) p
ends-behind us vs p q w g = (g.0, g.1, walks-append us vs p q g.0 w g.2)

ends-marked : (t : Symbol) (us : List Symbol) (p : Phase) → fresh p ≡ true → has ats t.sort ≡ true → Ends us marked → Ends (t ∷ us) p
ends-marked t us p f h g = (g.0, g.1, (marked, at-fresh p t f h, g.2))

goes-marked : (t : Symbol) (us : List Symbol) (p : Phase) → fresh p ≡ true → has ats t.sort ≡ true → Goes us marked → Goes (t ∷ us) p
goes-marked t us p f h g = (g.0, g.1, (marked, at-fresh p t f h, g.2))

body-ends : (us : List Symbol) (x : AnnotationText) → Is Whole annotation_body us x → Ends us marked
unfolding annotation_body
body-ends us x ((n, None), q, e) = ends-at us (q.0 ++ q.1) marked q.2 (ends-behind q.0 q.1 marked named_there (chain-walks q.0 n q.3) (ends-at q.1 [] named_there q.4 (named_there, refl, refl)))
body-ends us x ((n, Some y), q, e) = ends-at us (q.0 ++ q.1) marked q.2 (ends-behind q.0 q.1 marked named_there (chain-walks q.0 n q.3) (shut, refl, arguments-walk q.1 y q.4))

annotation-ends : (p : Phase) → fresh p ≡ true → (us : List Symbol) (x : AnnotationText) → Is Whole annotation us x → Ends us p
unfolding annotation
annotation-ends p f us x is =
    let q = is.1 in
    ends-at us (is.0.0 ∷ q.1) p (q.2 ∙ ap (λ (a : List Symbol). a ++ q.1) q.3.0) (ends-marked is.0.0 q.1 p f q.3.1 (body-ends q.1 is.0.1 q.4))

-- the same where what is in its brackets is passed over
tail-ends : (us : List Symbol) (x : List ℕ × _) → Is Whole (pair name_chain (maybe (over (61 ∷ [])))) us x → Ends us marked
tail-ends us (n, None) q = ends-at us (q.0 ++ q.1) marked q.2 (ends-behind q.0 q.1 marked named_there (chain-walks q.0 n q.3) (ends-at q.1 [] named_there q.4 (named_there, refl, refl)))
tail-ends us (n, Some y) q = ends-at us (q.0 ++ q.1) marked q.2 (ends-behind q.0 q.1 marked named_there (chain-walks q.0 n q.3) (shut, refl, over-walk q.1 q.4))

tail-goes : (us : List Symbol) (n : ℕ) → Begins Whole Started (pair name_chain (maybe (over (61 ∷ [])))) us n → Goes us marked
tail-goes us n (inl b) = chain-begun us n b
tail-goes us n (inr q) = goes-at us (q.0 ++ q.1) marked q.3 (goes-behind q.0 q.1 marked named_there (chain-walks q.0 q.2 q.4) (over-go q.1 q.5.1))

passed-ends : (p : Phase) → fresh p ≡ true → (us : List Symbol) (x : Unit {0}) → Is Whole annotation_over us x → Ends us p
unfolding annotation_over
passed-ends p f us x is =
    let q = is.1 in
    ends-at us (is.0.0 ∷ q.1) p (q.2 ∙ ap (λ (a : List Symbol). a ++ q.1) q.3.0) (ends-marked is.0.0 q.1 p f q.3.1 (tail-ends q.1 is.0.1 q.4))

passed-goes : (p : Phase) → fresh p ≡ true → (us : List Symbol) (n : ℕ) → Begins Whole Started annotation_over us n → Goes us p
unfolding annotation_over
passed-goes p f us n (inl (z, inl e)) = goes-at us [] p e (p, fresh-going p f, refl)
passed-goes p f us n (inl (z, inr q)) = goes-at us (q.0 ∷ []) p q.1 (goes-marked q.0 [] p f q.2 (marked, refl, refl))
passed-goes p f us n (inr q) = goes-at us (q.2 ∷ q.1) p (q.3 ∙ ap (λ (a : List Symbol). a ++ q.1) q.4.0) (goes-marked q.2 q.1 p f q.4.1 (tail-goes q.1 n q.5))

-- ---- any number of them

abbrev Rests : List Symbol → Phase → Type 0
Rests us p = (q : Phase) × (fresh q ≡ true) × Walks us p q

each-rests : {A : Type 0} (P : List Symbol → A → Type 0) → ((p : Phase) → fresh p ≡ true → (us : List Symbol) (x : A) → P us x → Ends us p) → (xs : List A) (p : Phase) → fresh p ≡ true → (us : List Symbol) → Each P us xs → Rests us p
each-rests P h [] p f us each = (p, f, subst (λ (u : List Symbol). Walks u p p) (sym each) refl)
each-rests P h (x ∷ xs) p f us each =
    let one = h p f each.0 x each.3 in
    let r = each-rests P h xs one.0 (ended-fresh one.0 one.1) each.1 each.4 in
    (r.0, r.1, subst (λ (u : List Symbol). Walks u p r.0) (sym each.2) (walks-append each.0 each.1 p one.0 r.0 one.2 r.2))

-- the same behind at least one
each-ends : {A : Type 0} (P : List Symbol → A → Type 0) → ((p : Phase) → fresh p ≡ true → (us : List Symbol) (x : A) → P us x → Ends us p) → (xs : List A) (p : Phase) → ended p ≡ true → (us : List Symbol) → Each P us xs → Ends us p
each-ends P h [] p f us each = (p, f, subst (λ (u : List Symbol). Walks u p p) (sym each) refl)
each-ends P h (x ∷ xs) p f us each =
    let one = h p (ended-fresh p f) each.0 x each.3 in
    let r = each-ends P h xs one.0 one.1 each.1 each.4 in
    (r.0, r.1, subst (λ (u : List Symbol). Walks u p r.0) (sym each.2) (walks-append each.0 each.1 p one.0 r.0 one.2 r.2))

-- ---- before a bracket

square-step : (p : Phase) (t : Symbol) → fresh p ≡ true → has (65 ∷ []) t.sort ≡ true → next_phase p t ≡ Some dims
square-step ready t f e = rw (disjoint-has (65 ∷ []) ats t.sort refl e, e) refl
square-step named_there t f e = rw (disjoint-has (65 ∷ []) (69 ∷ []) t.sort refl e, disjoint-has (65 ∷ []) (61 ∷ []) t.sort refl e, disjoint-has (65 ∷ []) ats t.sort refl e, e) refl
square-step shut t f e = rw (disjoint-has (65 ∷ []) ats t.sort refl e, e) refl
square-step marked t f e = absurd cc
square-step (inside ks) t f e = absurd cc
square-step dims t f e = absurd cc
square-step typed t f e = absurd cc

marks-rest : (us : List Symbol) (xs : List AnnotationText) → Is Whole annotations us xs → Rests us ready
unfolding annotations
marks-rest us xs is = each-rests (Is Whole annotation) annotation-ends xs ready refl us is

pub dim-walks : (us : List Symbol) (x : Around) → Is Whole dim us x → Walks us ready dims
unfolding dim
dim-walks us x is =
    let q = is.1 in
    let r = q.4.1 in
    let m = marks-rest q.0 is.0.0 q.3 in
    subst (λ (u : List Symbol). Walks u ready dims) (sym (q.2 ∙ ap (λ (a : List Symbol). q.0 ++ a) (r.2 ∙ ap (λ (a : List Symbol). a ++ r.1) r.3.0)))
    (walks-append q.0 (q.4.0.0 ∷ r.1) ready m.0 dims m.2 (dims, square-step m.0 q.4.0.0 m.1 r.3.1, walks-dims r.1))

-- ---- before a type

typed-step : (p : Phase) (t : Symbol) → ended p ≡ true → has (names ++ primitive_sorts) t.sort ≡ true → next_phase p t ≡ Some typed
typed-step named_there t f e =
    rw (disjoint-has (names ++ primitive_sorts) (69 ∷ []) t.sort refl e, disjoint-has (names ++ primitive_sorts) (61 ∷ []) t.sort refl e, disjoint-has (names ++ primitive_sorts) ats t.sort refl e, disjoint-has (names ++ primitive_sorts) (65 ∷ []) t.sort refl e, e) refl
typed-step shut t f e = rw (disjoint-has (names ++ primitive_sorts) ats t.sort refl e, disjoint-has (names ++ primitive_sorts) (65 ∷ []) t.sort refl e, e) refl
typed-step ready t f e = absurd cc
typed-step marked t f e = absurd cc
typed-step (inside ks) t f e = absurd cc
typed-step dims t f e = absurd cc
typed-step typed t f e = absurd cc

-- behind no bracket
abbrev pub undimmed : Phase → Bool
undimmed ready = true
undimmed marked = true
undimmed named_there = true
undimmed (inside ks) = true
undimmed shut = true
undimmed dims = false
undimmed typed = true

going-undimmed : (p : Phase) → going p ≡ true → undimmed p ≡ true
going-undimmed ready e = refl
going-undimmed marked e = refl
going-undimmed named_there e = refl
going-undimmed (inside ks) e = refl
going-undimmed shut e = refl
going-undimmed dims e = absurd cc
going-undimmed typed e = refl

pub annotated-walks : (us : List Symbol) (x : Unit {0}) → Is Whole annotated_form us x → Walks us ready typed
unfolding annotated_form
annotated-walks us x is =
    let q = is.1 in
    let r = q.4 in
    let one = passed-ends ready refl q.0 is.0.0 q.3 in
    let m = each-ends (Is Whole annotation_over) passed-ends is.0.1.0 one.0 one.1 r.0 r.3 in
    subst (λ (u : List Symbol). Walks u ready typed) (sym (q.2 ∙ ap (λ (a : List Symbol). q.0 ++ a) (r.2 ∙ ap (λ (a : List Symbol). r.0 ++ a) r.4.0)))
    (walks-append q.0 (r.0 ++ is.0.1.1 ∷ []) ready one.0 typed one.2 (walks-append r.0 (is.0.1.1 ∷ []) one.0 m.0 typed m.2 (typed, typed-step m.0 is.0.1.1 m.1 r.4.1, refl)))

abbrev pub Undimmed : List Symbol → Type 0
Undimmed us = (q : Phase) × (undimmed q ≡ true) × Walks us ready q

pub annotated-undimmed : (us : List Symbol) (n : ℕ) → Begins Whole Started annotated_form us n → Undimmed us
unfolding annotated_form
annotated-undimmed us n (inl b) = let g = passed-goes ready refl us n b in (g.0, going-undimmed g.0 g.1, g.2)
annotated-undimmed us n (inr q) = go (passed-ends ready refl q.0 q.2 q.4) q.5
  where
    behind-one : (one : Ends q.0 ready) (p : Phase) → undimmed p ≡ true → Walks q.1 one.0 p → Undimmed us
    behind-one one p u w = (p, u, subst (λ (a : List Symbol). Walks a ready p) (sym q.3) (walks-append q.0 q.1 ready one.0 p one.2 w))

    go : (one : Ends q.0 ready) → Begins Whole Started (pair (many annotation_over) (terminal (names ++ primitive_sorts))) q.1 n → Undimmed us
    go one (inl b) =
        let m = each-ends (Is Whole annotation_over) passed-ends b.2 one.0 one.1 b.0 b.4 in
        let g = passed-goes m.0 (ended-fresh m.0 m.1) b.1 n b.5 in
        behind-one one g.0 (going-undimmed g.0 g.1) (subst (λ (a : List Symbol). Walks a one.0 g.0) (sym b.3) (walks-append b.0 b.1 one.0 m.0 g.0 m.2 g.2))
    go one (inr r) = last (each-ends (Is Whole annotation_over) passed-ends r.2 one.0 one.1 r.0 r.4) r.5
      where
        last : (m : Ends r.0 one.0) → Begins Whole Started (terminal (names ++ primitive_sorts)) r.1 n → Undimmed us
        last m (z, inl e) = behind-one one m.0 (going-undimmed m.0 (fresh-going m.0 (ended-fresh m.0 m.1))) (subst (λ (a : List Symbol). Walks a one.0 m.0) (sym (r.3 ∙ ap (λ (a : List Symbol). r.0 ++ a) e ∙ append-nil r.0)) m.2)
        last m (z, inr p) = behind-one one typed refl (subst (λ (a : List Symbol). Walks a one.0 typed) (sym (r.3 ∙ ap (λ (a : List Symbol). r.0 ++ a) p.1)) (walks-append r.0 (p.0 ∷ []) one.0 m.0 typed m.2 (typed, typed-step m.0 p.0 m.1 p.2, refl)))
