-- What a form has open over the beginning of a type, by a test.
use Rattle.std.proofs.Common.{⊎_elim, ◌≡◌, ℕ, zero, suc, Bool, true, false, List, [], ◌∷◌, ◌++◌, refl, subst, inl, inr}
use Rattle.std.specs.Prelude.{◌&&◌, ◌||◌}
use Rattle.std.proofs.lemmas.Bool.{eqb-true}
use Rattle.decl_grammar.specs.declared.symbol.Symbol.{Symbol}
use Rattle.decl_grammar.specs.Reading.{has}
use Rattle.decl_grammar.specs.Form.{After, Part, Nest, is_value, first_of, nullable, first, between, name_there, greater, dot, colons, colon_arguments, creation, test, test_name, test_arguments, test_end, one_of, bracketed, arguments, annotated, created, type_reference, tested, tested_name, tested_dim, type_arguments, created_arguments, array_value, nested_annotation, first_name, constant_value, expression_part, nested_type, modifiers, plain_modifiers, static_word, import_rest, enum_rest, param_rest, first_rest, value_and_rest, expression_rest, initialiser, value_end, constant_items, constant_chain, Form, terminal, pair, turn, maybe, many, either, seen, nest, over, attempt, Is, Begins}
use Rattle.decl_grammar.specs.Rule.{WholeAt, BegunAt}
use Rattle.decl_grammar.proofs.OneToken.{no, no_true, both, one_or, not_both, within, within-has}
use Rattle.decl_grammar.proofs.Heads.{nil-open, Is-nil, Is-head, Begins-head}
use Rattle.decl_grammar.proofs.Heights.{full-at, heads-at, bheads-at}
use Rattle.decl_grammar.proofs.OpenBrackets.{stops, reference_stops, Leads}
use Rattle.decl_grammar.proofs.Effects.{in_arguments, in_reference, Effect, level, opening, closing, mixed, effect, Levels}
use Rattle.decl_grammar.proofs.EffectLemmas.{form-levels}
use Rattle.decl_grammar.proofs.Closed.{levels-at}
use Rattle.decl_grammar.proofs.Crossing.{stopping, same, stopped}
use Rattle.decl_grammar.proofs.TypeParts.{lists, in_list, no-reference}
use Rattle.decl_grammar.proofs.TypesHeld.{Held, behind-part, extra, held-behind, none-held}

-- ---- rows

abbrev pub reached : After → Bool
reached between = true
reached name_there = true
reached greater = true
reached dot = true
reached colons = true
reached colon_arguments = true
reached creation = false
reached test = false
reached test_name = false
reached test_arguments = false
reached test_end = false

abbrev pub held_part : Part → Bool
held_part (one_of ks) = true
held_part (bracketed ks) = true
held_part arguments = true
held_part annotated = true
held_part type_reference = true
held_part created = false
held_part tested = false
held_part tested_name = false
held_part tested_dim = false

abbrev pub held_nest : Bool → Nest → Bool
held_nest v (expression_part s p) = same v (is_value s) && held_part p
held_nest v (expression_rest s w a) = same v (is_value s) && reached a
held_nest v (value_and_rest s) = same v (is_value s)
held_nest v (value_end s) = same v (is_value s)
held_nest v type_arguments = true
held_nest v nested_annotation = v
held_nest v created_arguments = false
held_nest v array_value = false
held_nest v first_name = false
held_nest v constant_value = false
held_nest v nested_type = false
held_nest v modifiers = false
held_nest v plain_modifiers = false
held_nest v static_word = false
held_nest v import_rest = false
held_nest v enum_rest = false
held_nest v param_rest = false
held_nest v first_rest = false
held_nest v initialiser = false
held_nest v constant_items = false
held_nest v constant_chain = false

abbrev pub misfits : {A : Type 0} → Form A → Bool
misfits f = within (first f) reference_stops && no (nullable f)

abbrev pub in_type_too : Effect → Bool → Bool
in_type_too level stop = true
in_type_too (opening k) stop = has (74 ∷ []) k
in_type_too (closing k) stop = has (201 ∷ []) k
in_type_too mixed stop = stop

abbrev pub holds : Bool → {A : Type 0} → Form A → Bool
holds v (terminal ks) = true
holds v (pair f g) = holds v f && (stopping f || ((in_list (effect in_arguments f) false && in_type_too (effect in_reference f) (misfits f)) && holds v g))
holds v (turn h f) = holds v f
holds v (maybe f) = holds v f
holds v (many f) = false
holds v (either f g) = holds v f && holds v g
holds v (seen h f) = holds v f
holds v (nest m) = held_nest v m || stopping (nest m)
holds v (over opens) = true
holds v (attempt f g) = holds v f && holds v g

abbrev pub HeldNests : Bool → ℕ → Type 0
HeldNests v h = (m : Nest) → held_nest v m ≡ true → (d : ℕ) (us : List Symbol) (n : ℕ) (ms : List ℕ) → Leads us (lists d) ms → Begins (WholeAt h) (BegunAt h) (nest m) us n → Held (extra v) d us n

-- no symbol that stands in no type stands first
pub stops-there : (d : ℕ) (t : Symbol) (us : List Symbol) (ms : List ℕ) → has stops t.sort ≡ true → Leads (t ∷ us) (lists d) ms → ⊥
stops-there zero t us ms e l = no-reference t us [] ms (within-has stops reference_stops t.sort refl e) l
stops-there (suc d) t us ms e l = stopped t us (lists d) ms e l

whole-stopped : (h : ℕ) {A : Type 0} (f : Form A) → stopping f ≡ true → (d : ℕ) (a us : List Symbol) (ms : List ℕ) (x : A) → Leads (a ++ us) (lists d) ms → Is (WholeAt h) f a x → ⊥
whole-stopped h f e d [] us ms x l is = not_both (nullable f) (Is-nil (WholeAt h) (full-at h) f [] x refl is) (no_true (nullable f) (both (within (first f) stops) (no (nullable f)) e).1)
whole-stopped h f e d (t ∷ a) us ms x l is =
    stops-there d t (a ++ us) ms (within-has (first f) stops t.sort (both (within (first f) stops) (no (nullable f)) e).0 (Is-head (WholeAt h) (full-at h) (heads-at h) f t a x (t ∷ a) refl is)) l

whole-misfits : (h : ℕ) {A : Type 0} (f : Form A) → misfits f ≡ true → (a us : List Symbol) (ms : List ℕ) (x : A) → Leads (a ++ us) (lists zero) ms → Is (WholeAt h) f a x → ⊥
whole-misfits h f e [] us ms x l is = not_both (nullable f) (Is-nil (WholeAt h) (full-at h) f [] x refl is) (no_true (nullable f) (both (within (first f) reference_stops) (no (nullable f)) e).1)
whole-misfits h f e (t ∷ a) us ms x l is =
    no-reference t (a ++ us) [] ms (within-has (first f) reference_stops t.sort (both (within (first f) reference_stops) (no (nullable f)) e).0 (Is-head (WholeAt h) (full-at h) (heads-at h) f t a x (t ∷ a) refl is)) l

begun-stopped : (h : ℕ) (m : Nest) → stopping (nest m) ≡ true → (d : ℕ) (us : List Symbol) (n : ℕ) (ms : List ℕ) → Leads us (lists d) ms → Begins (WholeAt h) (BegunAt h) (nest m) us n → n ≡ 0
begun-stopped h m e d us n ms l (inl p) = p.1
begun-stopped h m e d [] n ms l (inr q) = absurd (let z = q.3 in cc)
begun-stopped h m e d (t ∷ us) n ms l (inr q) =
    absurd (stops-there d t us ms (within-has (first_of m) stops t.sort (both (within (first_of m) stops) true e).0 (Begins-head (WholeAt h) (BegunAt h) (full-at h) (heads-at h) (bheads-at h) (nest m) t us n (t ∷ us) refl (inr q))) l)

leads-none : (us : List Symbol) (ms : List ℕ) → Leads us [] ms → us ≡ []
leads-none [] ms l = refl
leads-none (t ∷ us) ms l = absurd l

-- behind a part, in a list and where none is open
pub list-second : (x d : ℕ) (ts a us : List Symbol) (n : ℕ) (ms : List ℕ) (e : Effect) → in_list e false ≡ true → ts ≡ a ++ us → Leads ts (lists (suc d)) ms → Levels in_arguments e a → ((k : ℕ) → Leads us (lists k) ms → Held x k us n) → Held x (suc d) ts n
list-second x d ts a us n ms level z s l p goes =
    let q : Leads a (lists (suc d)) (lists (suc d)) = p 74 (lists d) refl in
    held-behind x (suc d) (suc d) ts a us n s q (goes (suc d) (behind-part a us (lists (suc d)) (lists (suc d)) ms q (subst (λ (u : List Symbol). Leads u (lists (suc d)) ms) s l)))
list-second x d ts a us n ms (opening k) z s l p goes =
    let q : Leads a (lists (suc d)) (lists (suc (suc d))) = subst (λ (y : ℕ). Leads a (lists (suc d)) (y ∷ lists (suc d))) (eqb-true k 74 z) (p 74 (lists d) refl) in
    held-behind x (suc d) (suc (suc d)) ts a us n s q (goes (suc (suc d)) (behind-part a us (lists (suc d)) (lists (suc (suc d))) ms q (subst (λ (u : List Symbol). Leads u (lists (suc d)) ms) s l)))
list-second x d ts a us n ms (closing k) z s l p goes =
    let q : Leads a (lists (suc d)) (lists d) = subst (λ (y : ℕ). Leads a (y ∷ lists d) (lists d)) (eqb-true k 74 z) (p (lists d)) in
    held-behind x (suc d) d ts a us n s q (goes d (behind-part a us (lists (suc d)) (lists d) ms q (subst (λ (u : List Symbol). Leads u (lists (suc d)) ms) s l)))
list-second x d ts a us n ms mixed z s l p goes = absurd cc

type-second : (x : ℕ) (ts a us : List Symbol) (n : ℕ) (ms : List ℕ) (e : Effect) (stop : Bool) → in_type_too e stop ≡ true → ts ≡ a ++ us → Leads ts (lists zero) ms → Levels in_reference e a → (us ≡ [] → n ≡ 0) → (stop ≡ true → ⊥)
    → ((k : ℕ) → Leads us (lists k) ms → Held x k us n) → Held x zero ts n
type-second x ts a us n ms level stop z s l p none not goes =
    let q : Leads a (lists zero) (lists zero) = p 201 [] refl in
    held-behind x zero zero ts a us n s q (goes zero (behind-part a us (lists zero) (lists zero) ms q (subst (λ (u : List Symbol). Leads u (lists zero) ms) s l)))
type-second x ts a us n ms (opening k) stop z s l p none not goes =
    let q : Leads a (lists zero) (lists (suc zero)) = subst (λ (y : ℕ). Leads a (lists zero) (y ∷ lists zero)) (eqb-true k 74 z) (p 201 [] refl) in
    held-behind x zero (suc zero) ts a us n s q (goes (suc zero) (behind-part a us (lists zero) (lists (suc zero)) ms q (subst (λ (u : List Symbol). Leads u (lists zero) ms) s l)))
type-second x ts a us n ms (closing k) stop z s l p none not goes =
    let q : Leads a (lists zero) [] = subst (λ (y : ℕ). Leads a (y ∷ []) []) (eqb-true k 201 z) (p []) in
    none-held x zero ts n (none (leads-none us ms (behind-part a us (lists zero) [] ms q (subst (λ (u : List Symbol). Leads u (lists zero) ms) s l))))
type-second x ts a us n ms mixed stop z s l p none not goes = absurd (not z)

abbrev Second : Bool → ℕ → {B : Type 0} → Form B → Type 0
Second v h g = (k : ℕ) (us : List Symbol) (n : ℕ) (ms : List ℕ) → Leads us (lists k) ms → Begins (WholeAt h) (BegunAt h) g us n → Held (extra v) k us n

pair-second : (v : Bool) (h : ℕ) {A B : Type 0} (f : Form A) (g : Form B) → (in_list (effect in_arguments f) false && in_type_too (effect in_reference f) (misfits f)) ≡ true → Second v h g
    → (d : ℕ) (ts a us : List Symbol) (x : A) (n : ℕ) (ms : List ℕ) → ts ≡ a ++ us → Leads ts (lists d) ms → Is (WholeAt h) f a x → Begins (WholeAt h) (BegunAt h) g us n → Held (extra v) d ts n
pair-second v h f g e goes zero ts a us x n ms s l is b =
    let z = both (in_list (effect in_arguments f) false) (in_type_too (effect in_reference f) (misfits f)) e in
    type-second (extra v) ts a us n ms (effect in_reference f) (misfits f) z.1 s l (form-levels (WholeAt h) (levels-at h) in_reference f a x is)
    (λ y. nil-open (WholeAt h) (BegunAt h) g us n y b)
    (λ y. whole-misfits h f y a us ms x (subst (λ (u : List Symbol). Leads u (lists zero) ms) s l) is)
    (λ k m. goes k us n ms m b)
pair-second v h f g e goes (suc d) ts a us x n ms s l is b =
    let z = both (in_list (effect in_arguments f) false) (in_type_too (effect in_reference f) (misfits f)) e in
    list-second (extra v) d ts a us n ms (effect in_arguments f) z.0 s l (form-levels (WholeAt h) (levels-at h) in_arguments f a x is) (λ k m. goes k us n ms m b)

pub form-holds : (v : Bool) (h : ℕ) → HeldNests v h → {A : Type 0} (f : Form A) → holds v f ≡ true → (d : ℕ) (us : List Symbol) (n : ℕ) (ms : List ℕ) → Leads us (lists d) ms → Begins (WholeAt h) (BegunAt h) f us n → Held (extra v) d us n
form-holds v h inside (terminal ks) e d us n ms l b = none-held (extra v) d us n b.0
form-holds v h inside (pair f g) e d us n ms l (inl b) =
    form-holds v h inside f (both (holds v f) (stopping f || ((in_list (effect in_arguments f) false && in_type_too (effect in_reference f) (misfits f)) && holds v g)) e).0 d us n ms l b
form-holds v h inside (pair f g) e d us n ms l (inr q) =
    ⊎_elim
    (λ (z : stopping f ≡ true). absurd (whole-stopped h f z d q.0 q.1 ms q.2 (subst (λ (u : List Symbol). Leads u (lists d) ms) q.3 l) q.4))
    (λ (z : ((in_list (effect in_arguments f) false && in_type_too (effect in_reference f) (misfits f)) && holds v g) ≡ true).
    let y = both (in_list (effect in_arguments f) false && in_type_too (effect in_reference f) (misfits f)) (holds v g) z in
    pair-second v h f g y.0 (form-holds v h inside g y.1) d us q.0 q.1 q.2 n ms q.3 l q.4 q.5)
    (one_or (stopping f) ((in_list (effect in_arguments f) false && in_type_too (effect in_reference f) (misfits f)) && holds v g)
    (both (holds v f) (stopping f || ((in_list (effect in_arguments f) false && in_type_too (effect in_reference f) (misfits f)) && holds v g)) e).1)
form-holds v h inside (turn k f) e d us n ms l b = form-holds v h inside f e d us n ms l b
form-holds v h inside (maybe f) e d us n ms l b = form-holds v h inside f e d us n ms l b
form-holds v h inside (many f) e d us n ms l b = absurd cc
form-holds v h inside (either f g) e d us n ms l (inl b) = form-holds v h inside f (both (holds v f) (holds v g) e).0 d us n ms l b
form-holds v h inside (either f g) e d us n ms l (inr b) = form-holds v h inside g (both (holds v f) (holds v g) e).1 d us n ms l b
form-holds v h inside (seen k f) e d us n ms l b = form-holds v h inside f e d us n ms l b
form-holds v h inside (nest m) e d us n ms l b =
    ⊎_elim
    (λ (z : held_nest v m ≡ true). inside m z d us n ms l b)
    (λ (z : stopping (nest m) ≡ true). none-held (extra v) d us n (begun-stopped h m z d us n ms l b))
    (one_or (held_nest v m) (stopping (nest m)) e)
form-holds v h inside (over opens) e d us n ms l b = none-held (extra v) d us n b.0
form-holds v h inside (attempt f g) e d us n ms l (inl b) = form-holds v h inside f (both (holds v f) (holds v g) e).0 d us n ms l b
form-holds v h inside (attempt f g) e d us n ms l (inr b) = form-holds v h inside g (both (holds v f) (holds v g) e).1 d us n ms l b
