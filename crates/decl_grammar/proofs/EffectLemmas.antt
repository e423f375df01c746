-- What a form does to the brackets that are open, proved from its parts.
use Rattle.std.proofs.Common.{◌≡◌, ℕ, suc, arith, Bool, true, false, cond, eqb, List, [], ◌∷◌, ◌++◌, ◌⊎◌, Some, None, refl, sym, ap, subst, ◌∙◌, append_assoc, inl, inr}
use Rattle.std.proofs.lemmas.Bool.{eqb-true}
use Rattle.decl_grammar.specs.declared.symbol.Symbol.{Symbol}
use Rattle.decl_grammar.specs.Reading.{has, done, fault, ◌>>=◌, one_at, openers, pass, skip}
use Rattle.decl_grammar.specs.Form.{Nest, Of, Form, terminal, pair, turn, maybe, many, either, seen, nest, over, attempt, Each, Wholes, Begun, Is, Begins}
use Rattle.decl_grammar.proofs.OneToken.{within, within-has, disjoint, disjoint-has}
use Rattle.decl_grammar.proofs.OpenBrackets.{lids, stops, constant_stops, reference_stops, marks, open_after, within_arguments, within_constant, within_reference, Leads, leads-append, outside, opener-after, plain-after, lid-closed, pass-done, pass-open}
use Rattle.decl_grammar.proofs.Effects.{Mode, in_brackets, in_arguments, in_constant, in_reference, Effect, level, opening, closing, mixed, fits, sort_effect, terminal_effect, passable, over_effect, nest_effect, joined, inner, alike, repeated, effect, Lid, Levels, Opened}

pub opened-nil : (b : Mode) (e : Effect) → Opened b e []
opened-nil b level = λ k ks l. ([], refl)
opened-nil b (opening c) = λ k ks l. ([], refl)
opened-nil b (closing c) = λ ks. (c ∷ [], refl)
opened-nil b mixed = tt

levels-opened : (b : Mode) (e : Effect) (us : List Symbol) → Levels b e us → Opened b e us
levels-opened b level us p = λ k ks l. ([], p k ks l)
levels-opened b (opening c) us p = λ k ks l. (c ∷ [], p k ks l)
levels-opened b (closing c) us p = λ ks. ([], p ks)
levels-opened b mixed us p = tt

-- ---- one symbol

one : (k : ℕ) (ks ms : List ℕ) (t : Symbol) → open_after k ks t ≡ Some ms → Leads (t ∷ []) (k ∷ ks) ms
one k ks ms t e = (ms, e, refl)

angle-after : (ks : List ℕ) (t : Symbol) → open_after 74 ks t ≡ within_arguments ks t
angle-after ks t = refl

at-angle : (t : Symbol) (us : List ℕ → List ℕ) → ((ks : List ℕ) → Leads (t ∷ []) (74 ∷ ks) (us (74 ∷ ks))) → (k : ℕ) (ks : List ℕ) → Lid in_arguments k → Leads (t ∷ []) (k ∷ ks) (us (k ∷ ks))
at-angle t us h k ks l = subst (λ (n : ℕ). Leads (t ∷ []) (n ∷ ks) (us (n ∷ ks))) (sym (eqb-true k 74 l)) (h ks)

angled : (t : Symbol) (a b c d : Bool) → eqb t.sort 75 ≡ a → eqb t.sort 74 ≡ b → has stops t.sort ≡ c → has openers t.sort ≡ d → Levels in_arguments (cond a (opening 74) (cond b (closing 74) (cond c mixed (cond d (opening (suc t.sort)) level)))) (t ∷ [])
angled t true b c d ea eb ec ed = at-angle t (λ l. 74 ∷ l) (λ ks. one 74 ks (74 ∷ 74 ∷ ks) t (angle-after ks t ∙ rw ea refl))
angled t false true c d ea eb ec ed = λ ks. one 74 ks ks t (angle-after ks t ∙ rw (ea, eb) refl)
angled t false false true d ea eb ec ed = tt
angled t false false false true ea eb ec ed = at-angle t (λ l. suc t.sort ∷ l) (λ ks. one 74 ks (suc t.sort ∷ 74 ∷ ks) t (angle-after ks t ∙ rw (ea, eb, ec, ed) refl))
angled t false false false false ea eb ec ed = at-angle t (λ l. l) (λ ks. one 74 ks (74 ∷ ks) t (angle-after ks t ∙ rw (ea, eb, ec, ed) refl))

at-constant : (t : Symbol) (us : List ℕ → List ℕ) → ((ks : List ℕ) → Leads (t ∷ []) (200 ∷ ks) (us (200 ∷ ks))) → (k : ℕ) (ks : List ℕ) → Lid in_constant k → Leads (t ∷ []) (k ∷ ks) (us (k ∷ ks))
at-constant t us h k ks l = subst (λ (n : ℕ). Leads (t ∷ []) (n ∷ ks) (us (n ∷ ks))) (sym (eqb-true k 200 l)) (h ks)

constant-after : (ks : List ℕ) (t : Symbol) → open_after 200 ks t ≡ within_constant ks t
constant-after ks t = refl

constantly : (t : Symbol) (b c d : Bool) → has (67 ∷ []) t.sort ≡ b → has constant_stops t.sort ≡ c → has openers t.sort ≡ d → Levels in_constant (cond b (closing 200) (cond c mixed (cond d (opening (suc t.sort)) level))) (t ∷ [])
constantly t true c d eb ec ed = λ ks. one 200 ks ks t (constant-after ks t ∙ rw eb refl)
constantly t false true d eb ec ed = tt
constantly t false false true eb ec ed = at-constant t (λ l. suc t.sort ∷ l) (λ ks. one 200 ks (suc t.sort ∷ 200 ∷ ks) t (constant-after ks t ∙ rw (eb, ec, ed) refl))
constantly t false false false eb ec ed = at-constant t (λ l. l) (λ ks. one 200 ks (200 ∷ ks) t (constant-after ks t ∙ rw (eb, ec, ed) refl))

at-reference : (t : Symbol) (us : List ℕ → List ℕ) → ((ks : List ℕ) → Leads (t ∷ []) (201 ∷ ks) (us (201 ∷ ks))) → (k : ℕ) (ks : List ℕ) → Lid in_reference k → Leads (t ∷ []) (k ∷ ks) (us (k ∷ ks))
at-reference t us h k ks l = subst (λ (n : ℕ). Leads (t ∷ []) (n ∷ ks) (us (n ∷ ks))) (sym (eqb-true k 201 l)) (h ks)

reference-after : (ks : List ℕ) (t : Symbol) → open_after 201 ks t ≡ within_reference ks t
reference-after ks t = refl

referring : (t : Symbol) (a b c d : Bool) → has (75 ∷ []) t.sort ≡ a → has (72 ∷ []) t.sort ≡ b → has reference_stops t.sort ≡ c → has openers t.sort ≡ d
    → Levels in_reference (cond a (opening 74) (cond b (closing 201) (cond c mixed (cond d (opening (suc t.sort)) level)))) (t ∷ [])
referring t true b c d ea eb ec ed = at-reference t (λ l. 74 ∷ l) (λ ks. one 201 ks (74 ∷ 201 ∷ ks) t (reference-after ks t ∙ rw ea refl))
referring t false true c d ea eb ec ed = λ ks. one 201 ks ks t (reference-after ks t ∙ rw (ea, eb) refl)
referring t false false true d ea eb ec ed = tt
referring t false false false true ea eb ec ed = at-reference t (λ l. suc t.sort ∷ l) (λ ks. one 201 ks (suc t.sort ∷ 201 ∷ ks) t (reference-after ks t ∙ rw (ea, eb, ec, ed) refl))
referring t false false false false ea eb ec ed = at-reference t (λ l. l) (λ ks. one 201 ks (201 ∷ ks) t (reference-after ks t ∙ rw (ea, eb, ec, ed) refl))

unangled : (t : Symbol) (c d : Bool) → has openers t.sort ≡ c → has lids t.sort ≡ d → Levels in_brackets (cond c (opening (suc t.sort)) (cond d (closing t.sort) level)) (t ∷ [])
unangled t true d ec ed = λ k ks l. one k ks (suc t.sort ∷ k ∷ ks) t (opener-after k ks t l ec)
unangled t false true ec ed = λ ks. one t.sort ks ks t (lid-closed ks t ed)
unangled t false false ec ed = λ k ks l. one k ks (k ∷ ks) t (plain-after k ks t l ed ec)

sort-levels : (b : Mode) (t : Symbol) → Levels b (sort_effect b t.sort) (t ∷ [])
sort-levels in_arguments t = angled t (eqb t.sort 75) (eqb t.sort 74) (has stops t.sort) (has openers t.sort) refl refl refl refl
sort-levels in_brackets t = unangled t (has openers t.sort) (has lids t.sort) refl refl
sort-levels in_constant t = constantly t (has (67 ∷ []) t.sort) (has constant_stops t.sort) (has openers t.sort) refl refl refl
sort-levels in_reference t = referring t (has (75 ∷ []) t.sort) (has (72 ∷ []) t.sort) (has reference_stops t.sort) (has openers t.sort) refl refl refl refl

plain-levels : (b : Mode) (t : Symbol) → has marks t.sort ≡ false → Levels b level (t ∷ [])
plain-levels in_arguments t e = angled t false false false false (outside (75 ∷ []) marks t.sort refl e) (outside (74 ∷ []) marks t.sort refl e) (outside stops marks t.sort refl e) (outside openers marks t.sort refl e)
plain-levels in_brackets t e = unangled t false false (outside openers marks t.sort refl e) (outside lids marks t.sort refl e)
plain-levels in_constant t e = constantly t false false false (outside (67 ∷ []) marks t.sort refl e) (outside constant_stops marks t.sort refl e) (outside openers marks t.sort refl e)
plain-levels in_reference t e = referring t false false false false (outside (75 ∷ []) marks t.sort refl e) (outside (72 ∷ []) marks t.sort refl e) (outside reference_stops marks t.sort refl e) (outside openers marks t.sort refl e)

pub terminal-levels : (b : Mode) (ks : List ℕ) (t : Symbol) → has ks t.sort ≡ true → Levels b (terminal_effect b ks) (t ∷ [])
terminal-levels b [] t e = absurd cc
terminal-levels b (k ∷ []) t e = subst (λ (n : ℕ). Levels b (sort_effect b n) (t ∷ [])) (eqb-true t.sort k e) (sort-levels b t)
terminal-levels b (k ∷ l ∷ ks) t e = go (disjoint (k ∷ l ∷ ks) marks) refl
  where
    go : (c : Bool) → disjoint (k ∷ l ∷ ks) marks ≡ c → Levels b (cond c level mixed) (t ∷ [])
    go true d = plain-levels b t (disjoint-has (k ∷ l ∷ ks) marks t.sort d e)
    go false d = tt

-- ---- what is passed over

-- a bracket that may be passed over opens
opens-there : (b : Mode) (t : Symbol) → has (passable b) t.sort ≡ true → (k : ℕ) (ks : List ℕ) → Lid b k → open_after k ks t ≡ Some (suc t.sort ∷ k ∷ ks)
opens-there in_brackets t e k ks l = opener-after k ks t l e
opens-there in_constant t e k ks l =
    subst (λ (n : ℕ). open_after n ks t ≡ Some (suc t.sort ∷ n ∷ ks)) (sym (eqb-true k 200 l))
    (constant-after ks t ∙ rw (disjoint-has openers (67 ∷ []) t.sort refl e, disjoint-has openers constant_stops t.sort refl e, e) refl)
opens-there in_reference t e k ks l =
    subst (λ (n : ℕ). open_after n ks t ≡ Some (suc t.sort ∷ n ∷ ks)) (sym (eqb-true k 201 l))
    (reference-after ks t ∙ rw (disjoint-has (61 ∷ 65 ∷ []) (75 ∷ []) t.sort refl e, disjoint-has (61 ∷ 65 ∷ []) (72 ∷ []) t.sort refl e, disjoint-has (61 ∷ 65 ∷ []) reference_stops t.sort refl e, within-has (61 ∷ 65 ∷ []) openers t.sort refl e) refl)
opens-there in_arguments t e k ks l =
    subst (λ (n : ℕ). open_after n ks t ≡ Some (suc t.sort ∷ n ∷ ks)) (sym (eqb-true k 74 l))
    (angle-after ks t ∙ rw (disjoint-has (61 ∷ 65 ∷ []) (75 ∷ []) t.sort refl e, disjoint-has (61 ∷ 65 ∷ []) (74 ∷ []) t.sort refl e, disjoint-has (61 ∷ 65 ∷ []) stops t.sort refl e, within-has (61 ∷ 65 ∷ []) openers t.sort refl e) refl)

passable-opens : (b : Mode) (n : ℕ) → has (passable b) n ≡ true → has openers n ≡ true
passable-opens in_brackets n e = e
passable-opens in_constant n e = e
passable-opens in_reference n e = within-has (61 ∷ 65 ∷ []) openers n refl e
passable-opens in_arguments n e = within-has (61 ∷ 65 ∷ []) openers n refl e

lid-behind : (n : ℕ) → has openers n ≡ true → has lids (suc n) ≡ true
lid-behind n o = grind arith

skip-done : (b : Mode) (opens : List ℕ) → within opens (passable b) ≡ true → (us : List Symbol) → skip opens us ≡ done tt [] → Levels b level us
unfolding one_at
skip-done b opens w [] e = absurd cc
skip-done b opens w (t ∷ us) e = go (has opens t.sort) refl e
  where
    go : (c : Bool) → has opens t.sort ≡ c → (cond c (done t us) (fault (t ∷ us)) >>= λ t rest. pass (suc t.sort ∷ []) rest) ≡ done tt [] → Levels b level (t ∷ us)
    go true p e = λ k ks l.
        let q = within-has opens (passable b) t.sort w p in
        (suc t.sort ∷ k ∷ ks, opens-there b t q k ks l, pass-done (suc t.sort ∷ []) (k ∷ ks) us (lid-behind t.sort (passable-opens b t.sort q), tt) e)
    go false p e = absurd cc

skip-open : (b : Mode) (opens : List ℕ) → within opens (passable b) ≡ true → (us : List Symbol) → skip opens us ≡ fault [] → Opened b level us
unfolding one_at
skip-open b opens w [] e = opened-nil b level
skip-open b opens w (t ∷ us) e = go (has opens t.sort) refl e
  where
    go : (c : Bool) → has opens t.sort ≡ c → (cond c (done t us) (fault (t ∷ us)) >>= λ t rest. pass (suc t.sort ∷ []) rest) ≡ fault [] → Opened b level (t ∷ us)
    go true p e = λ k ks l.
        let q = within-has opens (passable b) t.sort w p in
        let r = pass-open (suc t.sort ∷ []) (k ∷ ks) us (lid-behind t.sort (passable-opens b t.sort q), tt) e in
        (r.0, (suc t.sort ∷ k ∷ ks, opens-there b t q k ks l, r.1))
    go false p e = absurd cc

over-levels : (b : Mode) (opens : List ℕ) (us : List Symbol) → skip opens us ≡ done tt [] → Levels b (over_effect b opens) us
over-levels b opens us e = go (within opens (passable b)) refl
  where
    go : (c : Bool) → within opens (passable b) ≡ c → Levels b (cond c level mixed) us
    go true w = skip-done b opens w us e
    go false w = tt

over-opened : (b : Mode) (opens : List ℕ) (us : List Symbol) → (skip opens us ≡ fault []) ⊎ (skip opens us ≡ done tt []) → Opened b (over_effect b opens) us
over-opened b opens us (inr e) = levels-opened b (over_effect b opens) us (over-levels b opens us e)
over-opened b opens us (inl e) = go (within opens (passable b)) refl
  where
    go : (c : Bool) → within opens (passable b) ≡ c → Opened b (cond c level mixed) us
    go true w = skip-open b opens w us e
    go false w = tt

-- ---- one after another

levels-joined : (b : Mode) (e f : Effect) (us vs : List Symbol) → Levels b e us → Levels (inner b e) f vs → Levels b (joined b e f) (us ++ vs)
levels-joined b level level us vs p q = λ k ks l. leads-append us vs (k ∷ ks) (k ∷ ks) (k ∷ ks) (p k ks l) (q k ks l)
levels-joined b level (opening c) us vs p q = λ k ks l. leads-append us vs (k ∷ ks) (k ∷ ks) (c ∷ k ∷ ks) (p k ks l) (q k ks l)
levels-joined b level (closing c) us vs p q = go (fits b c) refl
  where
    go : (d : Bool) → fits b c ≡ d → Levels b (cond d (closing c) mixed) (us ++ vs)
    go true l = λ ks. leads-append us vs (c ∷ ks) (c ∷ ks) ks (p c ks l) (q ks)
    go false l = tt
levels-joined b level mixed us vs p q = tt
levels-joined b (opening c) level us vs p q = tt
levels-joined b (opening c) (opening d) us vs p q = tt
levels-joined b (opening c) (closing d) us vs p q = go (eqb d c) refl
  where
    go : (x : Bool) → eqb d c ≡ x → Levels b (cond x level mixed) (us ++ vs)
    go true e = λ k ks l. leads-append us vs (k ∷ ks) (c ∷ k ∷ ks) (k ∷ ks) (p k ks l) (subst (λ (n : ℕ). Leads vs (n ∷ k ∷ ks) (k ∷ ks)) (eqb-true d c e) (q (k ∷ ks)))
    go false e = tt
levels-joined b (opening c) mixed us vs p q = tt
levels-joined b (closing c) level us vs p q = tt
levels-joined b (closing c) (opening d) us vs p q = tt
levels-joined b (closing c) (closing d) us vs p q = tt
levels-joined b (closing c) mixed us vs p q = tt
levels-joined b mixed level us vs p q = tt
levels-joined b mixed (opening d) us vs p q = tt
levels-joined b mixed (closing d) us vs p q = tt
levels-joined b mixed mixed us vs p q = tt

opened-first : (b : Mode) (e f : Effect) (us : List Symbol) → Opened b e us → Opened b (joined b e f) us
opened-first b level level us p = p
opened-first b level (opening c) us p = p
opened-first b level (closing c) us p = go (fits b c) refl
  where
    go : (d : Bool) → fits b c ≡ d → Opened b (cond d (closing c) mixed) us
    go true l = λ ks. let r = p c ks l in (r.0 ++ c ∷ [], subst (λ (m : List ℕ). Leads us (c ∷ ks) m) (sym (append_assoc r.0 (c ∷ []) ks)) r.1)
    go false l = tt
opened-first b level mixed us p = tt
opened-first b (opening c) level us p = tt
opened-first b (opening c) (opening d) us p = tt
opened-first b (opening c) (closing d) us p = go (eqb d c)
  where
    go : (x : Bool) → Opened b (cond x level mixed) us
    go true = p
    go false = tt
opened-first b (opening c) mixed us p = tt
opened-first b (closing c) level us p = tt
opened-first b (closing c) (opening d) us p = tt
opened-first b (closing c) (closing d) us p = tt
opened-first b (closing c) mixed us p = tt
opened-first b mixed level us p = tt
opened-first b mixed (opening d) us p = tt
opened-first b mixed (closing d) us p = tt
opened-first b mixed mixed us p = tt

opened-second : (b : Mode) (e f : Effect) (us vs : List Symbol) → Levels b e us → Opened (inner b e) f vs → Opened b (joined b e f) (us ++ vs)
opened-second b level level us vs p q = λ k ks l. let r = q k ks l in (r.0, leads-append us vs (k ∷ ks) (k ∷ ks) (r.0 ++ k ∷ ks) (p k ks l) r.1)
opened-second b level (opening c) us vs p q = λ k ks l. let r = q k ks l in (r.0, leads-append us vs (k ∷ ks) (k ∷ ks) (r.0 ++ k ∷ ks) (p k ks l) r.1)
opened-second b level (closing c) us vs p q = go (fits b c) refl
  where
    go : (d : Bool) → fits b c ≡ d → Opened b (cond d (closing c) mixed) (us ++ vs)
    go true l = λ ks. let r = q ks in (r.0, leads-append us vs (c ∷ ks) (c ∷ ks) (r.0 ++ ks) (p c ks l) r.1)
    go false l = tt
opened-second b level mixed us vs p q = tt
opened-second b (opening c) level us vs p q = tt
opened-second b (opening c) (opening d) us vs p q = tt
opened-second b (opening c) (closing d) us vs p q = go (eqb d c) refl
  where
    go : (x : Bool) → eqb d c ≡ x → Opened b (cond x level mixed) (us ++ vs)
    go true e = λ k ks l.
        let r = q (k ∷ ks) in
        (r.0, leads-append us vs (k ∷ ks) (c ∷ k ∷ ks) (r.0 ++ k ∷ ks) (p k ks l) (subst (λ (n : ℕ). Leads vs (n ∷ k ∷ ks) (r.0 ++ k ∷ ks)) (eqb-true d c e) r.1))
    go false e = tt
opened-second b (opening c) mixed us vs p q = tt
opened-second b (closing c) level us vs p q = tt
opened-second b (closing c) (opening d) us vs p q = tt
opened-second b (closing c) (closing d) us vs p q = tt
opened-second b (closing c) mixed us vs p q = tt
opened-second b mixed level us vs p q = tt
opened-second b mixed (opening d) us vs p q = tt
opened-second b mixed (closing d) us vs p q = tt
opened-second b mixed mixed us vs p q = tt

-- ---- one or the other

-- what two effects have in common is each of them, or nothing is said
alike-left : (e f : Effect) → (alike e f ≡ e) ⊎ (alike e f ≡ mixed)
alike-left level level = inl refl
alike-left level (opening d) = inr refl
alike-left level (closing d) = inr refl
alike-left level mixed = inr refl
alike-left (opening c) level = inr refl
alike-left (opening c) (opening d) = go (eqb d c)
  where
    go : (x : Bool) → (cond x (opening c) mixed ≡ opening c) ⊎ (cond x (opening c) mixed ≡ mixed)
    go true = inl refl
    go false = inr refl
alike-left (opening c) (closing d) = inr refl
alike-left (opening c) mixed = inr refl
alike-left (closing c) level = inr refl
alike-left (closing c) (opening d) = inr refl
alike-left (closing c) (closing d) = go (eqb d c)
  where
    go : (x : Bool) → (cond x (closing c) mixed ≡ closing c) ⊎ (cond x (closing c) mixed ≡ mixed)
    go true = inl refl
    go false = inr refl
alike-left (closing c) mixed = inr refl
alike-left mixed level = inr refl
alike-left mixed (opening d) = inr refl
alike-left mixed (closing d) = inr refl
alike-left mixed mixed = inr refl

alike-right : (e f : Effect) → (alike e f ≡ f) ⊎ (alike e f ≡ mixed)
alike-right level level = inl refl
alike-right level (opening d) = inr refl
alike-right level (closing d) = inr refl
alike-right level mixed = inr refl
alike-right (opening c) level = inr refl
alike-right (opening c) (opening d) = go (eqb d c) refl
  where
    go : (x : Bool) → eqb d c ≡ x → (cond x (opening c) mixed ≡ opening d) ⊎ (cond x (opening c) mixed ≡ mixed)
    go true e = inl (ap (λ (n : ℕ). opening n) (sym (eqb-true d c e)))
    go false e = inr refl
alike-right (opening c) (closing d) = inr refl
alike-right (opening c) mixed = inr refl
alike-right (closing c) level = inr refl
alike-right (closing c) (opening d) = inr refl
alike-right (closing c) (closing d) = go (eqb d c) refl
  where
    go : (x : Bool) → eqb d c ≡ x → (cond x (closing c) mixed ≡ closing d) ⊎ (cond x (closing c) mixed ≡ mixed)
    go true e = inl (ap (λ (n : ℕ). closing n) (sym (eqb-true d c e)))
    go false e = inr refl
alike-right (closing c) mixed = inr refl
alike-right mixed level = inr refl
alike-right mixed (opening d) = inr refl
alike-right mixed (closing d) = inr refl
alike-right mixed mixed = inr refl

pub levels-by : (b : Mode) (e f : Effect) (us : List Symbol) → (f ≡ e) ⊎ (f ≡ mixed) → Levels b e us → Levels b f us
levels-by b e f us (inl p) h = subst (λ (x : Effect). Levels b x us) (sym p) h
levels-by b e f us (inr p) h = subst (λ (x : Effect). Levels b x us) (sym p) tt

pub opened-by : (b : Mode) (e f : Effect) (us : List Symbol) → (f ≡ e) ⊎ (f ≡ mixed) → Opened b e us → Opened b f us
opened-by b e f us (inl p) h = subst (λ (x : Effect). Opened b x us) (sym p) h
opened-by b e f us (inr p) h = subst (λ (x : Effect). Opened b x us) (sym p) tt

-- ---- none or any number

levels-repeated : (b : Mode) (e : Effect) {A : Type 0} (P : List Symbol → A → Type 0) → ((us : List Symbol) (x : A) → P us x → Levels b e us) → (xs : List A) (us : List Symbol) → Each P us xs → Levels b (repeated e) us
levels-repeated b level P h [] us each = subst (λ (u : List Symbol). Levels b level u) (sym each) (λ k ks l. refl)
levels-repeated b level P h (x ∷ xs) us each =
    subst (λ (u : List Symbol). Levels b level u) (sym each.2)
    (levels-joined b level level each.0 each.1 (h each.0 x each.3) (levels-repeated b level P h xs each.1 each.4))
levels-repeated b (opening c) P h xs us each = tt
levels-repeated b (closing c) P h xs us each = tt
levels-repeated b mixed P h xs us each = tt

opened-repeated : (b : Mode) (e : Effect) (us : List Symbol) → Opened b e us → Opened b (repeated e) us
opened-repeated b level us p = p
opened-repeated b (opening c) us p = tt
opened-repeated b (closing c) us p = tt
opened-repeated b mixed us p = tt

opened-row : (b : Mode) (e : Effect) (us vs : List Symbol) → Levels b (repeated e) us → Opened b e vs → Opened b (repeated e) (us ++ vs)
opened-row b level us vs p q = opened-second b level level us vs p q
opened-row b (opening c) us vs p q = tt
opened-row b (closing c) us vs p q = tt
opened-row b mixed us vs p q = tt

none-levels : (b : Mode) (e : Effect) → Levels b (repeated e) []
none-levels b level = λ k ks l. refl
none-levels b (opening c) = tt
none-levels b (closing c) = tt
none-levels b mixed = tt

maybe-levels : (b : Mode) (e : Effect) (us : List Symbol) → Levels b e us → Levels b (repeated e) us
maybe-levels b level us p = p
maybe-levels b (opening c) us p = tt
maybe-levels b (closing c) us p = tt
maybe-levels b mixed us p = tt

-- ---- forms

abbrev pub NestLevels : Wholes → Type 0
NestLevels w = (b : Mode) (m : Nest) (us : List Symbol) (x : Of m) → w m us x → Levels b (nest_effect b m) us

abbrev pub NestOpened : Begun → Type 0
NestOpened begun = (b : Mode) (m : Nest) (us : List Symbol) (n : ℕ) → begun m us n → Opened b (nest_effect b m) us

pub form-levels : (w : Wholes) → NestLevels w → (b : Mode) {A : Type 0} (f : Form A) (us : List Symbol) (x : A) → Is w f us x → Levels b (effect b f) us
form-levels w inside b (terminal ks) us x is = subst (λ (u : List Symbol). Levels b (terminal_effect b ks) u) (sym is.0) (terminal-levels b ks x is.1)
form-levels w inside b (pair f g) us x is =
    subst (λ (u : List Symbol). Levels b (joined b (effect b f) (effect (inner b (effect b f)) g)) u) (sym is.2)
    (levels-joined b (effect b f) (effect (inner b (effect b f)) g) is.0 is.1 (form-levels w inside b f is.0 x.0 is.3) (form-levels w inside (inner b (effect b f)) g is.1 x.1 is.4))
form-levels w inside b (turn h f) us x is = form-levels w inside b f us is.0 is.1
form-levels w inside b (maybe f) us None is = subst (λ (u : List Symbol). Levels b (repeated (effect b f)) u) (sym is) (none-levels b (effect b f))
form-levels w inside b (maybe f) us (Some x) is = maybe-levels b (effect b f) us (form-levels w inside b f us x is)
form-levels w inside b (many f) us xs is = levels-repeated b (effect b f) (Is w f) (form-levels w inside b f) xs us is
form-levels w inside b (either f g) us x (inl is) = levels-by b (effect b f) (alike (effect b f) (effect b g)) us (alike-left (effect b f) (effect b g)) (form-levels w inside b f us x is)
form-levels w inside b (either f g) us x (inr is) = levels-by b (effect b g) (alike (effect b f) (effect b g)) us (alike-right (effect b f) (effect b g)) (form-levels w inside b g us x is)
form-levels w inside b (seen h f) us x is = form-levels w inside b f us x.1 is.0
form-levels w inside b (nest m) us x is = inside b m us x is
form-levels w inside b (over opens) us x is = over-levels b opens us is
form-levels w inside b (attempt f g) us x (inl is) = levels-by b (effect b f) (alike (effect b f) (effect b g)) us (alike-left (effect b f) (effect b g)) (form-levels w inside b f us x is)
form-levels w inside b (attempt f g) us x (inr is) = levels-by b (effect b g) (alike (effect b f) (effect b g)) us (alike-right (effect b f) (effect b g)) (form-levels w inside b g us x is)

pub form-opened : (w : Wholes) (begun : Begun) → NestLevels w → NestOpened begun → (b : Mode) {A : Type 0} (f : Form A) (us : List Symbol) (n : ℕ) → Begins w begun f us n → Opened b (effect b f) us
form-opened w begun inside held b (terminal ks) us n (z, inl e) = subst (λ (u : List Symbol). Opened b (terminal_effect b ks) u) (sym e) (opened-nil b (terminal_effect b ks))
form-opened w begun inside held b (terminal ks) us n (z, inr p) =
    subst (λ (u : List Symbol). Opened b (terminal_effect b ks) u) (sym p.1) (levels-opened b (terminal_effect b ks) (p.0 ∷ []) (terminal-levels b ks p.0 p.2))
form-opened w begun inside held b (pair f g) us n (inl p) = opened-first b (effect b f) (effect (inner b (effect b f)) g) us (form-opened w begun inside held b f us n p)
form-opened w begun inside held b (pair f g) us n (inr q) =
    subst (λ (u : List Symbol). Opened b (joined b (effect b f) (effect (inner b (effect b f)) g)) u) (sym q.3)
    (opened-second b (effect b f) (effect (inner b (effect b f)) g) q.0 q.1 (form-levels w inside b f q.0 q.2 q.4) (form-opened w begun inside held (inner b (effect b f)) g q.1 n q.5))
form-opened w begun inside held b (turn h f) us n p = form-opened w begun inside held b f us n p
form-opened w begun inside held b (maybe f) us n p = opened-repeated b (effect b f) us (form-opened w begun inside held b f us n p)
form-opened w begun inside held b (many f) us n q =
    subst (λ (u : List Symbol). Opened b (repeated (effect b f)) u) (sym q.3)
    (opened-row b (effect b f) q.0 q.1 (levels-repeated b (effect b f) (Is w f) (form-levels w inside b f) q.2 q.0 q.4) (form-opened w begun inside held b f q.1 n q.5))
form-opened w begun inside held b (either f g) us n (inl p) = opened-by b (effect b f) (alike (effect b f) (effect b g)) us (alike-left (effect b f) (effect b g)) (form-opened w begun inside held b f us n p)
form-opened w begun inside held b (either f g) us n (inr p) = opened-by b (effect b g) (alike (effect b f) (effect b g)) us (alike-right (effect b f) (effect b g)) (form-opened w begun inside held b g us n p)
form-opened w begun inside held b (seen h f) us n p = form-opened w begun inside held b f us n p
form-opened w begun inside held b (nest m) us n (inl p) = subst (λ (u : List Symbol). Opened b (nest_effect b m) u) (sym p.0) (opened-nil b (nest_effect b m))
form-opened w begun inside held b (nest m) us n (inr q) = held b m us q.2 q.5
form-opened w begun inside held b (over opens) us n p = over-opened b opens us p.1
form-opened w begun inside held b (attempt f g) us n (inl p) = opened-by b (effect b f) (alike (effect b f) (effect b g)) us (alike-left (effect b f) (effect b g)) (form-opened w begun inside held b f us n p)
form-opened w begun inside held b (attempt f g) us n (inr p) = opened-by b (effect b g) (alike (effect b f) (effect b g)) us (alike-right (effect b f) (effect b g)) (form-opened w begun inside held b g us n p)
