-- Within a whole type with its `::`: what a part of an initialiser closes of it.
use Rattle.std.proofs.Common.{⊎_elim, ◌≡◌, ℕ, zero, suc, Bool, true, false, Some, None, List, [], ◌∷◌, ◌++◌, ◌⊎◌, refl, sym, ap, subst, ◌∙◌, inl, inr}
use Rattle.std.specs.Prelude.{◌&&◌}
use Rattle.std.proofs.lemmas.Bool.{eqb-true}
use Rattle.decl_grammar.specs.declared.symbol.Symbol.{Symbol}
use Rattle.decl_grammar.specs.Reading.{has}
use Rattle.decl_grammar.specs.Form.{first_of_part, After, Part, assigned, between, name_there, greater, dot, colons, colon_arguments, creation, test, test_name, test_arguments, test_end, expression_part}
use Rattle.decl_grammar.specs.Rule.{WholeAt, BegunAt}
use Rattle.decl_grammar.proofs.OneToken.{both, within, within-has, disjoint-has}
use Rattle.decl_grammar.proofs.Fronts.{cuts}
use Rattle.decl_grammar.proofs.Heights.{full-at, heads-at, bheads-at}
use Rattle.decl_grammar.proofs.OpenBrackets.{stops, reference_stops, within_reference, Leads, leads-end}
use Rattle.decl_grammar.proofs.Effects.{in_arguments, in_reference, Effect, level, opening, closing, mixed, part_effect, Levels, Opened}
use Rattle.decl_grammar.proofs.Closed.{levels-at, opened-at}
use Rattle.decl_grammar.proofs.Crossing.{no-more, rest-of, stopped}

-- ---- how far the lists of a type are closed

-- this many lists of type arguments are open in a type before its `::`
abbrev pub lists : ℕ → List ℕ
lists zero = 201 ∷ []
lists (suc d) = 74 ∷ lists d

-- these symbols are a part and what closes the rest of the type
abbrev pub Further : List Symbol → Symbol → List Symbol → List Symbol → List Symbol → Type 0
Further us r rs a c = (ds : List Symbol) × (e : ℕ) × (us ≡ a ++ ds) × (c ≡ ds ++ r ∷ rs) × Leads ds (lists e) []

pub never : (us : List Symbol) (r : Symbol) (rs : List Symbol) (ks ms : List ℕ) → Leads us ks [] → Leads (us ++ r ∷ rs) ks ms → ⊥
never us r rs ks ms l p = let z : r ∷ rs ≡ [] = leads-end us (r ∷ rs) ks ms l p in cc

pub none-closed : (e : ℕ) (us ds : List Symbol) (ks : List ℕ) → Leads us ks [] → Leads (us ++ ds) ks (lists e) → ⊥
none-closed zero us ds ks l p = no-more us ds ks [] 201 l p
none-closed (suc e) us ds ks l p = no-more us ds ks (lists e) 74 l p

further : (e : ℕ) (us : List Symbol) (r : Symbol) (rs a c : List Symbol) (ks : List ℕ) → us ++ r ∷ rs ≡ a ++ c → Leads us ks [] → Leads a ks (lists e) → Further us r rs a c
further e us r rs a c ks s l p =
    ⊎_elim
    (λ (q : (ds : List Symbol) × (a ≡ us ++ ds) × (r ∷ rs ≡ ds ++ c)). absurd (none-closed e us q.0 ks l (subst (λ (u : List Symbol). Leads u ks (lists e)) q.1 p)))
    (λ (q : (ds : List Symbol) × (us ≡ a ++ ds) × (c ≡ ds ++ r ∷ rs)). (q.0, e, q.1, q.2, rest-of a q.0 ks (lists e) (subst (λ (u : List Symbol). Leads u ks []) q.1 l) p))
    (cuts us (r ∷ rs) a c s)

append-nothing : (us ds : List Symbol) → ds ≡ [] → us ++ ds ≡ us
append-nothing [] ds e = e
append-nothing (u ∷ us) ds e = ap (λ (x : List Symbol). u ∷ x) (append-nothing us ds e)

-- a part that ends where the type does
ended : (us : List Symbol) (r : Symbol) (rs a c : List Symbol) (ks : List ℕ) → us ++ r ∷ rs ≡ a ++ c → Leads us ks [] → Leads a ks [] → (us ≡ a) × (c ≡ r ∷ rs)
ended us r rs a c ks s l p =
    ⊎_elim
    (λ (q : (ds : List Symbol) × (a ≡ us ++ ds) × (r ∷ rs ≡ ds ++ c)).
    let z : q.0 ≡ [] = leads-end us q.0 ks [] l (subst (λ (u : List Symbol). Leads u ks []) q.1 p) in
    (sym (q.1 ∙ append-nothing us q.0 z), sym (q.2 ∙ ap (λ (u : List Symbol). u ++ c) z)))
    (λ (q : (ds : List Symbol) × (us ≡ a ++ ds) × (c ≡ ds ++ r ∷ rs)).
    let z : q.0 ≡ [] = leads-end a q.0 ks [] p (subst (λ (u : List Symbol). Leads u ks []) q.1 l) in
    (q.1 ∙ append-nothing a q.0 z, q.2 ∙ ap (λ (u : List Symbol). u ++ r ∷ rs) z))
    (cuts us (r ∷ rs) a c s)

-- ---- one part

abbrev pub is_colons : After → Bool
is_colons colons = true
is_colons between = false
is_colons name_there = false
is_colons greater = false
is_colons dot = false
is_colons colon_arguments = false
is_colons creation = false
is_colons test = false
is_colons test_name = false
is_colons test_arguments = false
is_colons test_end = false

pub colons-only : (a : After) → is_colons a ≡ true → a ≡ colons
colons-only colons e = refl
colons-only between e = absurd cc
colons-only name_there e = absurd cc
colons-only greater e = absurd cc
colons-only dot e = absurd cc
colons-only colon_arguments e = absurd cc
colons-only creation e = absurd cc
colons-only test e = absurd cc
colons-only test_name e = absurd cc
colons-only test_arguments e = absurd cc
colons-only test_end e = absurd cc

-- what is asked of a part within type arguments, and where no list is open
abbrev pub in_list : Effect → Bool → Bool
in_list level stop = true
in_list (opening k) stop = has (74 ∷ []) k
in_list (closing k) stop = has (74 ∷ []) k
in_list mixed stop = stop

abbrev pub in_type : Effect → Bool → Bool → Bool
in_type level colon stop = true
in_type (opening k) colon stop = has (74 ∷ []) k
in_type (closing k) colon stop = has (201 ∷ []) k && colon
in_type mixed colon stop = stop

abbrev pub passing : Part → After → Bool
passing p a =
    in_list (part_effect in_arguments p) (within (first_of_part p) stops) && in_type (part_effect in_reference p) (is_colons a) (within (first_of_part p) reference_stops)

pub no-reference : (t : Symbol) (us : List Symbol) (ks ms : List ℕ) → has reference_stops t.sort ≡ true → Leads (t ∷ us) (201 ∷ ks) ms → ⊥
no-reference t us ks ms e l = none l.0 l.1
  where
    none : (next : List ℕ) → within_reference ks t ≡ Some next → ⊥
    none next p = let q : within_reference ks t ≡ None = rw (disjoint-has reference_stops (75 ∷ []) t.sort refl e, disjoint-has reference_stops (72 ∷ []) t.sort refl e, e) refl in cc

-- where the type is not closed yet it has a first symbol
pub some-symbol : (d : ℕ) (us : List Symbol) → Leads us (lists d) [] → (t : Symbol) × (us' : List Symbol) × (us ≡ t ∷ us')
some-symbol zero [] l = absurd cc
some-symbol (suc d) [] l = absurd cc
some-symbol d (t ∷ us) l = (t, us, refl)

abbrev pub Onward : After → List Symbol → Symbol → List Symbol → List Symbol → List Symbol → Type 0
Onward a us r rs b c = Further us r rs b c ⊎ ((is_colons a ≡ true) × ((us ≡ b) × (c ≡ r ∷ rs)))

-- in a list
list-onward : (a : After) (d : ℕ) (us : List Symbol) (r : Symbol) (rs b c : List Symbol) (e : Effect) (stop : Bool) → in_list e stop ≡ true → us ++ r ∷ rs ≡ b ++ c → Leads us (lists (suc d)) [] → Levels in_arguments e b
    → (stop ≡ true → ⊥) → Onward a us r rs b c
list-onward a d us r rs b c level stop z s l p not = inl (further (suc d) us r rs b c (lists (suc d)) s l (p 74 (lists d) refl))
list-onward a d us r rs b c (opening k) stop z s l p not =
    inl (further (suc (suc d)) us r rs b c (lists (suc d)) s l (subst (λ (x : ℕ). Leads b (lists (suc d)) (x ∷ lists (suc d))) (eqb-true k 74 z) (p 74 (lists d) refl)))
list-onward a d us r rs b c (closing k) stop z s l p not =
    inl (further d us r rs b c (lists (suc d)) s l (subst (λ (x : ℕ). Leads b (x ∷ lists d) (lists d)) (eqb-true k 74 z) (p (lists d))))
list-onward a d us r rs b c mixed stop z s l p not = absurd (not z)

-- where no list is open
type-onward : (a : After) (us : List Symbol) (r : Symbol) (rs b c : List Symbol) (e : Effect) (stop : Bool) → in_type e (is_colons a) stop ≡ true → us ++ r ∷ rs ≡ b ++ c → Leads us (lists zero) [] → Levels in_reference e b
    → (stop ≡ true → ⊥) → Onward a us r rs b c
type-onward a us r rs b c level stop z s l p not = inl (further zero us r rs b c (lists zero) s l (p 201 [] refl))
type-onward a us r rs b c (opening k) stop z s l p not =
    inl (further (suc zero) us r rs b c (lists zero) s l (subst (λ (x : ℕ). Leads b (lists zero) (x ∷ lists zero)) (eqb-true k 74 z) (p 201 [] refl)))
type-onward a us r rs b c (closing k) stop z s l p not =
    let y = both (has (201 ∷ []) k) (is_colons a) z in
    inr (y.1, ended us r rs b c (lists zero) s l (subst (λ (x : ℕ). Leads b (x ∷ []) []) (eqb-true k 201 y.0) (p [])))
type-onward a us r rs b c mixed stop z s l p not = absurd (not z)

-- the first symbol of a part is that of the whole
pub same-first : (us : List Symbol) (r : Symbol) (rs b c : List Symbol) (t u : Symbol) (us' b' : List Symbol) → us ++ r ∷ rs ≡ b ++ c → us ≡ t ∷ us' → b ≡ u ∷ b' → u ≡ t
same-first us r rs b c t u us' b' s p q =
    let z : t ∷ us' ++ r ∷ rs ≡ u ∷ b' ++ c = ap (λ (x : List Symbol). x ++ r ∷ rs) (sym p) ∙ s ∙ ap (λ (x : List Symbol). x ++ c) q in cc

first-of-whole : (h : ℕ) (p : Part) (b : List Symbol) (x : Unit {0}) → WholeAt h (expression_part assigned p) b x → (u : Symbol) × (b' : List Symbol) × (b ≡ u ∷ b') × (has (first_of_part p) u.sort ≡ true)
first-of-whole h p [] x is = absurd (full-at h (expression_part assigned p) x is)
first-of-whole h p (u ∷ b) x is = (u, b, refl, heads-at h (expression_part assigned p) u b x is)

-- the part is none that stands in no type
part-stays : (h : ℕ) (p : Part) (d : ℕ) (us : List Symbol) (r : Symbol) (rs b c : List Symbol) (x : Unit {0}) → us ++ r ∷ rs ≡ b ++ c → Leads us (lists (suc d)) [] → WholeAt h (expression_part assigned p) b x → within (first_of_part p) stops ≡ true → ⊥
part-stays h p d us r rs b c x s l is w =
    let f = first-of-whole h p b x is in
    let g = some-symbol (suc d) us l in
    let same : f.0 ≡ g.0 = same-first us r rs b c g.0 f.0 g.1 f.1 s g.2 f.2 in
    stopped g.0 g.1 (lists d) [] (subst (λ (y : Symbol). has stops y.sort ≡ true) same (within-has (first_of_part p) stops f.0.sort w f.3)) (subst (λ (u : List Symbol). Leads u (lists (suc d)) []) g.2 l)

part-fits : (h : ℕ) (p : Part) (us : List Symbol) (r : Symbol) (rs b c : List Symbol) (x : Unit {0}) → us ++ r ∷ rs ≡ b ++ c → Leads us (lists zero) [] → WholeAt h (expression_part assigned p) b x → within (first_of_part p) reference_stops ≡ true → ⊥
part-fits h p us r rs b c x s l is w =
    let f = first-of-whole h p b x is in
    let g = some-symbol zero us l in
    let same : f.0 ≡ g.0 = same-first us r rs b c g.0 f.0 g.1 f.1 s g.2 f.2 in
    no-reference g.0 g.1 [] [] (subst (λ (y : Symbol). has reference_stops y.sort ≡ true) same (within-has (first_of_part p) reference_stops f.0.sort w f.3)) (subst (λ (u : List Symbol). Leads u (lists zero) []) g.2 l)

pub onward : (h : ℕ) (p : Part) (a : After) → passing p a ≡ true → (d : ℕ) (us : List Symbol) (r : Symbol) (rs b c : List Symbol) (x : Unit {0}) → us ++ r ∷ rs ≡ b ++ c → Leads us (lists d) [] → WholeAt h (expression_part assigned p) b x → Onward a us r rs b c
onward h p a e zero us r rs b c x s l is =
    let z = both (in_list (part_effect in_arguments p) (within (first_of_part p) stops)) (in_type (part_effect in_reference p) (is_colons a) (within (first_of_part p) reference_stops)) e in
    type-onward a us r rs b c (part_effect in_reference p) (within (first_of_part p) reference_stops) z.1 s l (levels-at h in_reference (expression_part assigned p) b x is) (part-fits h p us r rs b c x s l is)
onward h p a e (suc d) us r rs b c x s l is =
    let z = both (in_list (part_effect in_arguments p) (within (first_of_part p) stops)) (in_type (part_effect in_reference p) (is_colons a) (within (first_of_part p) reference_stops)) e in
    list-onward a d us r rs b c (part_effect in_arguments p) (within (first_of_part p) stops) z.0 s l (levels-at h in_arguments (expression_part assigned p) b x is) (part-stays h p d us r rs b c x s l is)

-- a part that is begun does not go over the end of the type
list-begun : (d : ℕ) (us : List Symbol) (r : Symbol) (rs : List Symbol) (e : Effect) (stop : Bool) → in_list e stop ≡ true → Leads us (lists (suc d)) [] → Opened in_arguments e (us ++ r ∷ rs) → (stop ≡ true → ⊥) → ⊥
list-begun d us r rs level stop z l p not = let q = p 74 (lists d) refl in never us r rs (lists (suc d)) (q.0 ++ 74 ∷ lists d) l q.1
list-begun d us r rs (opening k) stop z l p not = let q = p 74 (lists d) refl in never us r rs (lists (suc d)) (q.0 ++ 74 ∷ lists d) l q.1
list-begun d us r rs (closing k) stop z l p not =
    let q = p (lists d) in
    never us r rs (lists (suc d)) (q.0 ++ lists d) l (subst (λ (x : ℕ). Leads (us ++ r ∷ rs) (x ∷ lists d) (q.0 ++ lists d)) (eqb-true k 74 z) q.1)
list-begun d us r rs mixed stop z l p not = not z

type-begun : (us : List Symbol) (r : Symbol) (rs : List Symbol) (e : Effect) (colon stop : Bool) → in_type e colon stop ≡ true → Leads us (lists zero) [] → Opened in_reference e (us ++ r ∷ rs) → (stop ≡ true → ⊥) → ⊥
type-begun us r rs level colon stop z l p not = let q = p 201 [] refl in never us r rs (lists zero) (q.0 ++ 201 ∷ []) l q.1
type-begun us r rs (opening k) colon stop z l p not = let q = p 201 [] refl in never us r rs (lists zero) (q.0 ++ 201 ∷ []) l q.1
type-begun us r rs (closing k) colon stop z l p not =
    let q = p [] in
    never us r rs (lists zero) (q.0 ++ []) l (subst (λ (x : ℕ). Leads (us ++ r ∷ rs) (x ∷ []) (q.0 ++ [])) (eqb-true k 201 (both (has (201 ∷ []) k) colon z).0) q.1)
type-begun us r rs mixed colon stop z l p not = not z

pub begun-stops : (h : ℕ) (p : Part) (a : After) → passing p a ≡ true → (d : ℕ) (us : List Symbol) (r : Symbol) (rs : List Symbol) (n : ℕ) → Leads us (lists d) [] → BegunAt h (expression_part assigned p) (us ++ r ∷ rs) n → ⊥
begun-stops h p a e zero us r rs n l b =
    let z = both (in_list (part_effect in_arguments p) (within (first_of_part p) stops)) (in_type (part_effect in_reference p) (is_colons a) (within (first_of_part p) reference_stops)) e in
    let g = some-symbol zero us l in
    let head : has (first_of_part p) g.0.sort ≡ true = bheads-at h (expression_part assigned p) g.0 (g.1 ++ r ∷ rs) n (subst (λ (u : List Symbol). BegunAt h (expression_part assigned p) (u ++ r ∷ rs) n) g.2 b) in
    type-begun us r rs (part_effect in_reference p) (is_colons a) (within (first_of_part p) reference_stops) z.1 l (opened-at h in_reference (expression_part assigned p) (us ++ r ∷ rs) n b)
    (λ w. no-reference g.0 g.1 [] [] (within-has (first_of_part p) reference_stops g.0.sort w head) (subst (λ (u : List Symbol). Leads u (lists zero) []) g.2 l))
begun-stops h p a e (suc d) us r rs n l b =
    let z = both (in_list (part_effect in_arguments p) (within (first_of_part p) stops)) (in_type (part_effect in_reference p) (is_colons a) (within (first_of_part p) reference_stops)) e in
    let g = some-symbol (suc d) us l in
    let head : has (first_of_part p) g.0.sort ≡ true = bheads-at h (expression_part assigned p) g.0 (g.1 ++ r ∷ rs) n (subst (λ (u : List Symbol). BegunAt h (expression_part assigned p) (u ++ r ∷ rs) n) g.2 b) in
    list-begun d us r rs (part_effect in_arguments p) (within (first_of_part p) stops) z.0 l (opened-at h in_arguments (expression_part assigned p) (us ++ r ∷ rs) n b)
    (λ w. stopped g.0 g.1 (lists d) [] (within-has (first_of_part p) stops g.0.sort w head) (subst (λ (u : List Symbol). Leads u (lists (suc d)) []) g.2 l))
