-- A row that takes the first `<` of type arguments as an operator stands behind their last `>` as behind an operator.
use Rattle.std.proofs.Common.{◌≡◌, ℕ, zero, suc, ◌≤◌, arith, Bool, true, false, List, [], ◌∷◌, ◌++◌, ◌⊎◌, Some, None, refl, sym, ap, subst, ◌∙◌, inl, inr, ⊎_elim}
use Rattle.std.specs.Prelude.{◌&&◌, ◌||◌}
use Rattle.std.proofs.lemmas.Bool.{eqb-true}
use Rattle.decl_grammar.specs.declared.symbol.Symbol.{Symbol}
use Rattle.decl_grammar.specs.Reading.{has}
use Rattle.decl_grammar.specs.Form.{Stands, Freedom, After, Nest, is_value, opened, between, name_there, greater, dot, colons, colon_arguments, creation, test, test_name, test_arguments, test_end, one_of, bracketed, arguments, annotated, created, type_reference, tested, tested_name, tested_dim, type_arguments, created_arguments, array_value, nested_annotation, first_name, constant_value, expression_part, nested_type, modifiers, plain_modifiers, static_word, import_rest, enum_rest, param_rest, first_rest, value_and_rest, expression_rest, initialiser, value_end, constant_items, constant_chain, Form, terminal, pair, turn, maybe, many, either, seen, nest, over, attempt, nullable, first, Is, Begins}
use Rattle.decl_grammar.specs.Rule.{WholeAt, BegunAt}
use Rattle.decl_grammar.proofs.OneToken.{no, no_true, both, one_or, not_both, within, within-has, disjoint-has}
use Rattle.decl_grammar.proofs.Heads.{nil_parts, Is-nil, Is-head, Begins-head}
use Rattle.decl_grammar.proofs.Fronts.{cuts}
use Rattle.decl_grammar.proofs.Heights.{Started, full-at, heads-at, bheads-at}
use Rattle.decl_grammar.proofs.OpenBrackets.{stops, within_arguments, Leads, leads-same, leads-split}
use Rattle.decl_grammar.proofs.Effects.{in_arguments, Effect, level, opening, closing, mixed, effect, Levels, Opened}
use Rattle.decl_grammar.proofs.EffectLemmas.{form-levels, form-opened}
use Rattle.decl_grammar.proofs.Closed.{levels-at, opened-at}

-- this many lists of type arguments are open
abbrev pub angles : ℕ → List ℕ
angles zero = []
angles (suc d) = 74 ∷ angles d

abbrev pub unclosing : Effect → Bool
unclosing level = true
unclosing (opening c) = true
unclosing (closing c) = false
unclosing mixed = false

-- it begins with what stands in no type arguments
abbrev pub stopping : {A : Type 0} → Form A → Bool
stopping f = within (first f) stops && no (nullable f)

-- it does not go over the end of type arguments
abbrev pub settled : {A : Type 0} → Form A → Bool
settled f = unclosing (effect in_arguments f) || stopping f

abbrev pub same : Bool → Bool → Bool
same true b = b
same false b = no b

-- the rows, and the parts that are one symbol
abbrev pub rowed : Bool → Nest → Bool
rowed v (expression_part s (one_of ks)) = true
rowed v (expression_part s (bracketed ks)) = false
rowed v (expression_part s arguments) = false
rowed v (expression_part s annotated) = false
rowed v (expression_part s created) = false
rowed v (expression_part s type_reference) = false
rowed v (expression_part s tested) = false
rowed v (expression_part s tested_name) = false
rowed v (expression_part s tested_dim) = false
rowed v (value_and_rest s) = same v (is_value s)
rowed v (expression_rest s w a) = same v (is_value s)
rowed v (value_end s) = same v (is_value s)
rowed v type_arguments = false
rowed v created_arguments = false
rowed v array_value = false
rowed v nested_annotation = false
rowed v first_name = false
rowed v constant_value = false
rowed v nested_type = false
rowed v modifiers = false
rowed v plain_modifiers = false
rowed v static_word = false
rowed v import_rest = false
rowed v enum_rest = false
rowed v param_rest = false
rowed v first_rest = false
rowed v initialiser = false
rowed v constant_items = false
rowed v constant_chain = false

abbrev pub is_greater : After → Bool
is_greater greater = true
is_greater between = false
is_greater name_there = false
is_greater dot = false
is_greater colons = false
is_greater colon_arguments = false
is_greater creation = false
is_greater test = false
is_greater test_name = false
is_greater test_arguments = false
is_greater test_end = false

abbrev pub greater_nest : Bool → Nest → Bool
greater_nest v (expression_rest s w a) = is_greater a && same v (is_value s)
greater_nest v type_arguments = false
greater_nest v created_arguments = false
greater_nest v array_value = false
greater_nest v nested_annotation = false
greater_nest v first_name = false
greater_nest v constant_value = false
greater_nest v (expression_part s p) = false
greater_nest v nested_type = false
greater_nest v modifiers = false
greater_nest v plain_modifiers = false
greater_nest v static_word = false
greater_nest v import_rest = false
greater_nest v enum_rest = false
greater_nest v param_rest = false
greater_nest v first_rest = false
greater_nest v (value_and_rest s) = false
greater_nest v initialiser = false
greater_nest v (value_end s) = false
greater_nest v constant_items = false
greater_nest v constant_chain = false

-- the rest behind an operator `>`
abbrev pub behind_greater : Bool → {A : Type 0} → Form A → Bool
behind_greater v (terminal ks) = false
behind_greater v (pair f g) = false
behind_greater v (turn h f) = false
behind_greater v (maybe f) = false
behind_greater v (many f) = false
behind_greater v (either f g) = false
behind_greater v (seen h f) = false
behind_greater v (nest m) = greater_nest v m
behind_greater v (over opens) = false
behind_greater v (attempt f g) = false

-- what is asked behind a part of such an effect
abbrev pub after_first : Effect → Bool → Bool → Bool → Bool
after_first level s c g = c
after_first (opening k) s c g = has (74 ∷ []) k && c
after_first (closing k) s c g = has (74 ∷ []) k && (c && g)
after_first mixed s c g = s

abbrev pub crosses : Bool → {A : Type 0} → Form A → Bool
crosses v (terminal ks) = true
crosses v (pair f g) = crosses v f && after_first (effect in_arguments f) (stopping f) (crosses v g) (behind_greater v g)
crosses v (turn h f) = crosses v f
crosses v (maybe f) = settled (maybe f)
crosses v (many f) = settled (many f)
crosses v (either f g) = crosses v f && crosses v g
crosses v (seen h f) = crosses v f
crosses v (nest m) = rowed v m || settled (nest m)
crosses v (over opens) = settled (over opens)
crosses v (attempt f g) = crosses v f && crosses v g

-- what is behind the last `>`: nothing, or what goes on behind an operator `>`
abbrev pub Crossed : Bool → List Symbol → ℕ → Type 0
Crossed v vs n = ((vs ≡ []) × (n ≤ 1)) ⊎ ((s : Stands) × (w : Freedom) × (is_value s ≡ v) × Started (expression_rest s w greater) vs n)

pub same-value : (v b : Bool) → same v b ≡ true → b ≡ v
same-value true b e = e
same-value false b e = no_true b e

-- ---- what is open

pub leads-nil : (us : List Symbol) (ms : List ℕ) → Leads us [] ms → us ≡ []
leads-nil [] ms l = refl
leads-nil (t ∷ us) ms l = absurd l

behind-end : (us ds : List Symbol) (ks ms : List ℕ) → Leads us ks [] → Leads (us ++ ds) ks ms → Leads ds [] ms
behind-end us ds ks ms l p =
    let q = leads-split us ds ks ms p in
    subst (λ (x : List ℕ). Leads ds x ms) (leads-same us ks q.0 [] q.1 l) q.2

pub no-more : (us ds : List Symbol) (ks ms : List ℕ) (m : ℕ) → Leads us ks [] → Leads (us ++ ds) ks (m ∷ ms) → ⊥
no-more us ds ks ms m l p = go ds (behind-end us ds ks (m ∷ ms) l p)
  where
    go : (ds : List Symbol) → Leads ds [] (m ∷ ms) → ⊥
    go [] e = cc
    go (t ∷ ds) e = e

pub rest-of : (a ds : List Symbol) (ks ms : List ℕ) → Leads (a ++ ds) ks [] → Leads a ks ms → Leads ds ms []
rest-of a ds ks ms l p =
    let q = leads-split a ds ks [] l in
    subst (λ (x : List ℕ). Leads ds x []) (leads-same a ks q.0 ms q.1 p) q.2

short : (us vs : List Symbol) (ks : List ℕ) → Leads us (74 ∷ ks) [] → us ++ vs ≡ [] → vs ≡ []
short [] vs ks l e = absurd cc
short (u ∷ us) vs ks l e = absurd cc

single : (us vs : List Symbol) (ks : List ℕ) (t : Symbol) → Leads us (74 ∷ ks) [] → us ++ vs ≡ t ∷ [] → vs ≡ []
single [] vs ks t l e = absurd cc
single (u ∷ us) vs ks t l e = (nil_parts us vs cc).1

unclosed : (e : Effect) → unclosing e ≡ true → (us vs : List Symbol) (ks : List ℕ) → Leads us (74 ∷ ks) [] → Opened in_arguments e (us ++ vs) → ⊥
unclosed level z us vs ks l p = let r = p 74 ks refl in no-longer r.0 r.1
  where
    no-longer : (ms : List ℕ) → Leads (us ++ vs) (74 ∷ ks) (ms ++ 74 ∷ ks) → ⊥
    no-longer [] q = no-more us vs (74 ∷ ks) ks 74 l q
    no-longer (m ∷ ms) q = no-more us vs (74 ∷ ks) (ms ++ 74 ∷ ks) m l q
unclosed (opening c) z us vs ks l p = let r = p 74 ks refl in no-longer r.0 r.1
  where
    no-longer : (ms : List ℕ) → Leads (us ++ vs) (74 ∷ ks) (ms ++ 74 ∷ ks) → ⊥
    no-longer [] q = no-more us vs (74 ∷ ks) ks 74 l q
    no-longer (m ∷ ms) q = no-more us vs (74 ∷ ks) (ms ++ 74 ∷ ks) m l q
unclosed (closing c) z us vs ks l p = absurd cc
unclosed mixed z us vs ks l p = absurd cc

pub stopped : (t : Symbol) (us : List Symbol) (ks ms : List ℕ) → has stops t.sort ≡ true → Leads (t ∷ us) (74 ∷ ks) ms → ⊥
stopped t us ks ms e l = none l.0 l.1
  where
    none : (next : List ℕ) → within_arguments ks t ≡ Some next → ⊥
    none next p = let q : within_arguments ks t ≡ None = rw (disjoint-has stops (75 ∷ []) t.sort refl e, disjoint-has stops (74 ∷ []) t.sort refl e, e) refl in cc

stopped-begun : (h : ℕ) {A : Type 0} (f : Form A) → stopping f ≡ true → (us vs : List Symbol) (ks : List ℕ) (n : ℕ) → Leads us (74 ∷ ks) [] → Begins (WholeAt h) (BegunAt h) f (us ++ vs) n → ⊥
stopped-begun h f e [] vs ks n l b = absurd cc
stopped-begun h f e (t ∷ us) vs ks n l b =
    let p = both (within (first f) stops) (no (nullable f)) e in
    stopped t us ks [] (within-has (first f) stops t.sort p.0 (Begins-head (WholeAt h) (BegunAt h) (full-at h) (heads-at h) (bheads-at h) f t (us ++ vs) n (t ∷ us ++ vs) refl b)) l

stopped-whole : (h : ℕ) {A : Type 0} (f : Form A) → stopping f ≡ true → (us vs a c : List Symbol) (ks : List ℕ) (x : A) → Leads us (74 ∷ ks) [] → us ++ vs ≡ a ++ c → Is (WholeAt h) f a x → ⊥
stopped-whole h f e [] vs a c ks x l p is = absurd cc
stopped-whole h f e (t ∷ us) vs [] c ks x l p is =
    let q = both (within (first f) stops) (no (nullable f)) e in
    not_both (nullable f) (Is-nil (WholeAt h) (full-at h) f [] x refl is) (no_true (nullable f) q.1)
stopped-whole h f e (t ∷ us) vs (u ∷ a) c ks x l p is =
    let q = both (within (first f) stops) (no (nullable f)) e in
    let z : u ≡ t = cc in
    stopped t us ks [] (subst (λ (y : Symbol). has stops y.sort ≡ true) z (within-has (first f) stops u.sort q.0 (Is-head (WholeAt h) (full-at h) (heads-at h) f u a x (u ∷ a) refl is))) l

-- ---- forms

abbrev pub NestCrosses : Bool → ℕ → Type 0
NestCrosses v h = (m : Nest) → rowed v m ≡ true → (d : ℕ) (us vs : List Symbol) (n : ℕ) → Leads us (angles (suc d)) [] → BegunAt h m (us ++ vs) n → Crossed v vs (opened m n)

settled-crosses : (v : Bool) (h : ℕ) {A : Type 0} (f : Form A) → settled f ≡ true → (d : ℕ) (us vs : List Symbol) (n : ℕ) → Leads us (angles (suc d)) [] → Begins (WholeAt h) (BegunAt h) f (us ++ vs) n → Crossed v vs n
settled-crosses v h f e d us vs n l b =
    ⊎_elim
    (λ (p : unclosing (effect in_arguments f) ≡ true). absurd (unclosed (effect in_arguments f) p us vs (angles d) l (form-opened (WholeAt h) (BegunAt h) (levels-at h) (opened-at h) in_arguments f (us ++ vs) n b)))
    (λ (p : stopping f ≡ true). absurd (stopped-begun h f p us vs (angles d) n l b))
    (one_or (unclosing (effect in_arguments f)) (stopping f) e)

pub terminal-crosses : (v : Bool) (h : ℕ) (ks : List ℕ) (d : ℕ) (us vs : List Symbol) (n : ℕ) → Leads us (angles (suc d)) [] → Begins (WholeAt h) (BegunAt h) (terminal ks) (us ++ vs) n → (vs ≡ []) × (n ≡ 0)
terminal-crosses v h ks d us vs n l (z, inl e) = (short us vs (angles d) l e, z)
terminal-crosses v h ks d us vs n l (z, inr p) = (single us vs (angles d) p.0 l p.1, z)

greater-begun : (v : Bool) (h : ℕ) (m : Nest) → greater_nest v m ≡ true → (vs : List Symbol) (n : ℕ) → BegunAt h m vs n → Crossed v vs (opened m n)
greater-begun v h (expression_rest s w greater) e vs n b = inr (s, w, same-value v (is_value s) e, (h, b))
greater-begun v h (expression_rest s w between) e vs n b = absurd cc
greater-begun v h (expression_rest s w name_there) e vs n b = absurd cc
greater-begun v h (expression_rest s w dot) e vs n b = absurd cc
greater-begun v h (expression_rest s w colons) e vs n b = absurd cc
greater-begun v h (expression_rest s w colon_arguments) e vs n b = absurd cc
greater-begun v h (expression_rest s w creation) e vs n b = absurd cc
greater-begun v h (expression_rest s w test) e vs n b = absurd cc
greater-begun v h (expression_rest s w test_name) e vs n b = absurd cc
greater-begun v h (expression_rest s w test_arguments) e vs n b = absurd cc
greater-begun v h (expression_rest s w test_end) e vs n b = absurd cc
greater-begun v h type_arguments e vs n b = absurd cc
greater-begun v h created_arguments e vs n b = absurd cc
greater-begun v h array_value e vs n b = absurd cc
greater-begun v h nested_annotation e vs n b = absurd cc
greater-begun v h first_name e vs n b = absurd cc
greater-begun v h constant_value e vs n b = absurd cc
greater-begun v h (expression_part s p) e vs n b = absurd cc
greater-begun v h nested_type e vs n b = absurd cc
greater-begun v h modifiers e vs n b = absurd cc
greater-begun v h plain_modifiers e vs n b = absurd cc
greater-begun v h static_word e vs n b = absurd cc
greater-begun v h import_rest e vs n b = absurd cc
greater-begun v h enum_rest e vs n b = absurd cc
greater-begun v h param_rest e vs n b = absurd cc
greater-begun v h first_rest e vs n b = absurd cc
greater-begun v h (value_and_rest s) e vs n b = absurd cc
greater-begun v h initialiser e vs n b = absurd cc
greater-begun v h (value_end s) e vs n b = absurd cc
greater-begun v h constant_items e vs n b = absurd cc
greater-begun v h constant_chain e vs n b = absurd cc

greater-rest : (v : Bool) (h : ℕ) {A : Type 0} (g : Form A) → behind_greater v g ≡ true → (vs : List Symbol) (n : ℕ) → Begins (WholeAt h) (BegunAt h) g vs n → Crossed v vs n
greater-rest v h (nest m) e vs n (inl p) = inl (p.0, omega (arith, p.1))
greater-rest v h (nest m) e vs n (inr q) = subst (λ (k : ℕ). Crossed v vs k) (sym q.4) (greater-begun v h m e vs q.2 q.5)
greater-rest v h (terminal ks) e vs n b = absurd cc
greater-rest v h (pair f g) e vs n b = absurd cc
greater-rest v h (turn k f) e vs n b = absurd cc
greater-rest v h (maybe f) e vs n b = absurd cc
greater-rest v h (many f) e vs n b = absurd cc
greater-rest v h (either f g) e vs n b = absurd cc
greater-rest v h (seen k f) e vs n b = absurd cc
greater-rest v h (over opens) e vs n b = absurd cc
greater-rest v h (attempt f g) e vs n b = absurd cc

-- what goes on behind the first part of a pair does so with this many lists open
abbrev Goes : Bool → ℕ → {A : Type 0} → Form A → Type 0
Goes v h g = (d : ℕ) (us vs : List Symbol) (n : ℕ) → Leads us (angles (suc d)) [] → Begins (WholeAt h) (BegunAt h) g (us ++ vs) n → Crossed v vs n

second-crosses : (v : Bool) (h : ℕ) {A B : Type 0} (f : Form A) (g : Form B) → (crosses v g ≡ true → Goes v h g) → (e : Effect) → after_first e (stopping f) (crosses v g) (behind_greater v g) ≡ true
    → (d : ℕ) (us vs a c : List Symbol) (x : A) (n : ℕ) → us ++ vs ≡ a ++ c → Leads us (angles (suc d)) [] → Is (WholeAt h) f a x → Levels in_arguments e a → Begins (WholeAt h) (BegunAt h) g c n → Crossed v vs n
second-crosses v h f g goes level e d us vs a c x n s l is p b =
    ⊎_elim
    (λ (q : (ds : List Symbol) × (a ≡ us ++ ds) × (vs ≡ ds ++ c)).
    absurd (no-more us q.0 (74 ∷ angles d) (angles d) 74 l (subst (λ (u : List Symbol). Leads u (74 ∷ angles d) (74 ∷ angles d)) q.1 (p 74 (angles d) refl))))
    (λ (q : (ds : List Symbol) × (us ≡ a ++ ds) × (c ≡ ds ++ vs)).
    goes e d q.0 vs n (rest-of a q.0 (74 ∷ angles d) (74 ∷ angles d) (subst (λ (u : List Symbol). Leads u (74 ∷ angles d) []) q.1 l) (p 74 (angles d) refl)) (subst (λ (u : List Symbol). Begins (WholeAt h) (BegunAt h) g u n) q.2 b))
    (cuts us vs a c s)
second-crosses v h f g goes (opening k) e d us vs a c x n s l is p b =
    let z = both (has (74 ∷ []) k) (crosses v g) e in
    let more : Leads a (74 ∷ angles d) (74 ∷ 74 ∷ angles d) = subst (λ (y : ℕ). Leads a (74 ∷ angles d) (y ∷ 74 ∷ angles d)) (eqb-true k 74 z.0) (p 74 (angles d) refl) in
    ⊎_elim
    (λ (q : (ds : List Symbol) × (a ≡ us ++ ds) × (vs ≡ ds ++ c)).
    absurd (no-more us q.0 (74 ∷ angles d) (74 ∷ angles d) 74 l (subst (λ (u : List Symbol). Leads u (74 ∷ angles d) (74 ∷ 74 ∷ angles d)) q.1 more)))
    (λ (q : (ds : List Symbol) × (us ≡ a ++ ds) × (c ≡ ds ++ vs)).
    goes z.1 (suc d) q.0 vs n (rest-of a q.0 (74 ∷ angles d) (74 ∷ 74 ∷ angles d) (subst (λ (u : List Symbol). Leads u (74 ∷ angles d) []) q.1 l) more) (subst (λ (u : List Symbol). Begins (WholeAt h) (BegunAt h) g u n) q.2 b))
    (cuts us vs a c s)
second-crosses v h f g goes (closing k) e d us vs a c x n s l is p b =
    let z = both (has (74 ∷ []) k) (crosses v g && behind_greater v g) e in
    let y = both (crosses v g) (behind_greater v g) z.1 in
    let less : Leads a (74 ∷ angles d) (angles d) = subst (λ (i : ℕ). Leads a (i ∷ angles d) (angles d)) (eqb-true k 74 z.0) (p (angles d)) in
    ⊎_elim
    (λ (q : (ds : List Symbol) × (a ≡ us ++ ds) × (vs ≡ ds ++ c)).
    let nothing : q.0 ≡ [] = leads-nil q.0 (angles d) (behind-end us q.0 (74 ∷ angles d) (angles d) l (subst (λ (u : List Symbol). Leads u (74 ∷ angles d) (angles d)) q.1 less)) in
    let there : vs ≡ c = q.2 ∙ ap (λ (u : List Symbol). u ++ c) nothing in
    greater-rest v h g y.1 vs n (subst (λ (u : List Symbol). Begins (WholeAt h) (BegunAt h) g u n) (sym there) b))
    (λ (q : (ds : List Symbol) × (us ≡ a ++ ds) × (c ≡ ds ++ vs)).
    go d q.0 (rest-of a q.0 (74 ∷ angles d) (angles d) (subst (λ (u : List Symbol). Leads u (74 ∷ angles d) []) q.1 l) less) y.0 y.1 (subst (λ (u : List Symbol). Begins (WholeAt h) (BegunAt h) g u n) q.2 b))
    (cuts us vs a c s)
  where
    go : (d : ℕ) (ds : List Symbol) → Leads ds (angles d) [] → crosses v g ≡ true → behind_greater v g ≡ true → Begins (WholeAt h) (BegunAt h) g (ds ++ vs) n → Crossed v vs n
    go zero ds m y1 y2 b =
        let nothing : ds ≡ [] = leads-nil ds [] m in
        greater-rest v h g y2 vs n (subst (λ (u : List Symbol). Begins (WholeAt h) (BegunAt h) g (u ++ vs) n) nothing b)
    go (suc d) ds m y1 y2 b = goes y1 d ds vs n m b
second-crosses v h f g goes mixed e d us vs a c x n s l is p b = absurd (stopped-whole h f e us vs a c (angles d) x l s is)

pub form-crosses : (v : Bool) (h : ℕ) → NestCrosses v h → {A : Type 0} (f : Form A) → crosses v f ≡ true → (d : ℕ) (us vs : List Symbol) (n : ℕ) → Leads us (angles (suc d)) [] → Begins (WholeAt h) (BegunAt h) f (us ++ vs) n → Crossed v vs n
form-crosses v h inside (terminal ks) e d us vs n l b = let p = terminal-crosses v h ks d us vs n l b in inl (p.0, omega (arith, p.1))
form-crosses v h inside (pair f g) e d us vs n l (inl b) = form-crosses v h inside f (both (crosses v f) (after_first (effect in_arguments f) (stopping f) (crosses v g) (behind_greater v g)) e).0 d us vs n l b
form-crosses v h inside (pair f g) e d us vs n l (inr q) =
    second-crosses v h f g (form-crosses v h inside g) (effect in_arguments f) (both (crosses v f) (after_first (effect in_arguments f) (stopping f) (crosses v g) (behind_greater v g)) e).1 d us vs q.0 q.1 q.2 n q.3 l q.4
    (form-levels (WholeAt h) (levels-at h) in_arguments f q.0 q.2 q.4) q.5
form-crosses v h inside (turn k f) e d us vs n l b = form-crosses v h inside f e d us vs n l b
form-crosses v h inside (maybe f) e d us vs n l b = settled-crosses v h (maybe f) e d us vs n l b
form-crosses v h inside (many f) e d us vs n l b = settled-crosses v h (many f) e d us vs n l b
form-crosses v h inside (either f g) e d us vs n l (inl b) = form-crosses v h inside f (both (crosses v f) (crosses v g) e).0 d us vs n l b
form-crosses v h inside (either f g) e d us vs n l (inr b) = form-crosses v h inside g (both (crosses v f) (crosses v g) e).1 d us vs n l b
form-crosses v h inside (seen k f) e d us vs n l b = form-crosses v h inside f e d us vs n l b
form-crosses v h inside (nest m) e d us vs n l (inl b) = inl (short us vs (angles d) l b.0, omega (arith, b.1))
form-crosses v h inside (nest m) e d us vs n l (inr q) =
    ⊎_elim
    (λ (p : rowed v m ≡ true). subst (λ (k : ℕ). Crossed v vs k) (sym q.4) (inside m p d us vs q.2 l q.5))
    (λ (p : settled (nest m) ≡ true). settled-crosses v h (nest m) p d us vs n l (inr q))
    (one_or (rowed v m) (settled (nest m)) e)
form-crosses v h inside (over opens) e d us vs n l b = settled-crosses v h (over opens) e d us vs n l b
form-crosses v h inside (attempt f g) e d us vs n l (inl b) = form-crosses v h inside f (both (crosses v f) (crosses v g) e).0 d us vs n l b
form-crosses v h inside (attempt f g) e d us vs n l (inr b) = form-crosses v h inside g (both (crosses v f) (crosses v g) e).1 d us vs n l b
