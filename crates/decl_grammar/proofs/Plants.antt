-- Where a `<` or an `@` stands, what is begun there may be put: for forms put together.
use Rattle.std.proofs.Common.{⊎_elim, ◌≡◌, ℕ, suc, ◌≤◌, Bool, true, false, List, [], ◌∷◌, ◌++◌, ◌⊎◌, refl, sym, ap, subst, ◌∙◌, append_assoc, inl, inr}
use Rattle.decl_grammar.specs.declared.symbol.Symbol.{Symbol}
use Rattle.decl_grammar.specs.Reading.{has}
use Rattle.decl_grammar.specs.Form.{ats, type_arguments, Form, terminal, pair, many, either, Each, Is, Begins}
use Rattle.decl_grammar.specs.Types.{annotation}
use Rattle.decl_grammar.specs.Rule.{WholeAt, BegunAt}
use Rattle.decl_grammar.proofs.OneToken.{not_both, within-has, disjoint, disjoint-has}
use Rattle.decl_grammar.proofs.Heads.{nil_parts, Is-begins}
use Rattle.decl_grammar.proofs.Fronts.{cuts}
use Rattle.decl_grammar.proofs.Rivals.{Is-up}
use Rattle.decl_grammar.proofs.Heights.{full-at, begins-at}
use Rattle.decl_grammar.proofs.OpenBrackets.{lids, Leads, leads-same, leads-split, lid-after, after-more, Lids, after-lids}
use Rattle.decl_grammar.proofs.Effects.{Mode, in_brackets, in_arguments, in_constant, in_reference, Effect, level, opening, closing, effect, Lid, Levels, Opened}
use Rattle.decl_grammar.proofs.EffectLemmas.{form-levels, form-opened}
use Rattle.decl_grammar.proofs.Closed.{levels-at, opened-at}
use Rattle.decl_grammar.proofs.Raised.{above, whole-first}

-- ---- what is begun there

-- at a `<` a list of type arguments, at an `@` an annotation
pub data Hole : Type 0 where
  at_list : Hole
  at_mark : Hole

abbrev pub opens_hole : Hole → List ℕ
opens_hole at_list = 75 ∷ []
opens_hole at_mark = ats

-- what is begun there, and how many are open in it
abbrev pub Fills : ℕ → Hole → List Symbol → ℕ → Type 0
Fills g at_list us n = (c : ℕ) × (n ≡ suc c) × BegunAt g type_arguments us c
Fills g at_mark us n = Begins (WholeAt g) (BegunAt g) annotation us n

-- within type arguments, and in a type with arguments
abbrev pub angular : Mode → Bool
angular in_arguments = true
angular in_reference = true
angular in_brackets = false
angular in_constant = false

-- this symbol stands there, and in no bracket
abbrev pub Spot : Mode → Hole → List Symbol → Symbol → Type 0
Spot b i us t = (k : ℕ) × (ks : List ℕ) × (l : ℕ) × (ls : List ℕ) × Lid b k × Leads us (k ∷ ks) (l ∷ ls) × (has lids l ≡ false) × (has (opens_hole i) t.sort ≡ true)

abbrev pub Filled : ℕ → ℕ → {A : Type 0} → Form A → List Symbol → ℕ → Type 0
Filled h g f us c = (n : ℕ) × (c ≤ n) × Begins (WholeAt (above h g)) (BegunAt (above h g)) f us n

abbrev pub Plants : ℕ → ℕ → Mode → {A : Type 0} → Form A → Type 0
Plants h g b f = (i : Hole) (us : List Symbol) (t : Symbol) (m : ℕ) → Spot b i us t → Begins (WholeAt h) (BegunAt h) f (us ++ t ∷ []) m → (vs : List Symbol) (c : ℕ) → Fills g i (t ∷ vs) c → Filled h g f (us ++ t ∷ vs) c

hole-sort : (i : Hole) (n : ℕ) → has (opens_hole i) n ≡ true → has (75 ∷ ats) n ≡ true
hole-sort at_list n e = within-has (75 ∷ []) (75 ∷ ats) n refl e
hole-sort at_mark n e = within-has ats (75 ∷ ats) n refl e

pub spot-behind : (b : Mode) (i : Hole) (a us : List Symbol) (t : Symbol) → Levels b level a → Spot b i (a ++ us) t → Spot b i us t
spot-behind b i a us t p s =
    let k = s.0 in
    let ks = s.1 in
    let q = leads-split a us (k ∷ ks) (s.2 ∷ s.3) s.5 in
    (k, ks, s.2, s.3, s.4, subst (λ (x : List ℕ). Leads us x (s.2 ∷ s.3)) (leads-same a (k ∷ ks) q.0 (k ∷ ks) q.1 (p k ks s.4)) q.2, s.6, s.7)

-- ---- where a symbol stands

alone-there : (us : List Symbol) (t q : Symbol) → us ++ t ∷ [] ≡ q ∷ [] → t ≡ q
alone-there [] t q e = cc
alone-there (u ∷ us) t q e = absurd (let z : us ++ t ∷ [] ≡ [] = cc in let y = (nil_parts us (t ∷ []) (sym z)).1 in cc)

pub none-there : {A : Type 0} (us : List Symbol) (t : Symbol) → us ++ t ∷ [] ≡ [] → A
none-there us t e = absurd (let y = (nil_parts us (t ∷ []) (sym e)).1 in cc)

append-nothing : (us ds : List Symbol) → ds ≡ [] → us ++ ds ≡ us
append-nothing [] ds e = e
append-nothing (u ∷ us) ds e = ap (λ (x : List Symbol). u ∷ x) (append-nothing us ds e)

where-stands : (us : List Symbol) (t : Symbol) (a c : List Symbol) → us ++ t ∷ [] ≡ a ++ c → (a ≡ us ++ t ∷ []) ⊎ ((ds : List Symbol) × (us ≡ a ++ ds) × (c ≡ ds ++ t ∷ []))
where-stands us t a c e =
    ⊎_elim
    (λ (q : (ds : List Symbol) × (a ≡ us ++ ds) × (t ∷ [] ≡ ds ++ c)). within q.0 q.1 q.2)
    (λ (q : (ds : List Symbol) × (us ≡ a ++ ds) × (c ≡ ds ++ t ∷ [])). inr q)
    (cuts us (t ∷ []) a c e)
  where
    within : (ds : List Symbol) → a ≡ us ++ ds → t ∷ [] ≡ ds ++ c → (a ≡ us ++ t ∷ []) ⊎ ((ds : List Symbol) × (us ≡ a ++ ds) × (c ≡ ds ++ t ∷ []))
    within [] p q = inr ([], sym (ap (λ (x : List Symbol). x ++ []) (p ∙ append-nothing us [] refl) ∙ append-nothing us [] refl), sym q)
    within (d ∷ []) p q = let z : d ≡ t = cc in inl (p ∙ ap (λ (x : Symbol). us ++ x ∷ []) z)
    within (d ∷ f ∷ ds) p q = absurd cc

pub longer-by : (us a ds vs : List Symbol) (t : Symbol) → us ≡ a ++ ds → us ++ t ∷ vs ≡ a ++ (ds ++ t ∷ vs)
longer-by us a ds vs t e = ap (λ (x : List Symbol). x ++ t ∷ vs) e ∙ append_assoc a ds (t ∷ vs)

-- ---- forms put together

pub plants-terminal : (h g : ℕ) (b : Mode) (ks : List ℕ) → disjoint ks (75 ∷ ats) ≡ true → Plants h g b (terminal ks)
plants-terminal h g b ks d i us t m s (z, inl e) vs c fill = none-there us t e
plants-terminal h g b ks d i us t m s (z, inr q) vs c fill =
    let same : t ≡ q.0 = alone-there us t q.0 q.1 in
    absurd (not_both (has (75 ∷ ats) t.sort) (hole-sort i t.sort s.7) (disjoint-has ks (75 ∷ ats) t.sort d (subst (λ (x : Symbol). has ks x.sort ≡ true) (sym same) q.2)))

pub plants-pair : (h g : ℕ) (b : Mode) {A B : Type 0} (f : Form A) (k : Form B) → effect b f ≡ level → Plants h g b f → Plants h g b k → Plants h g b (pair f k)
plants-pair h g b f k e pf pk i us t m s (inl p) vs c fill = let r = pf i us t m s p vs c fill in (r.0, r.1, inl r.2)
plants-pair h g b f k e pf pk i us t m s (inr q) vs c fill = go (where-stands us t q.0 q.1 q.3)
  where
    go : (q.0 ≡ us ++ t ∷ []) ⊎ ((ds : List Symbol) × (us ≡ q.0 ++ ds) × (q.1 ≡ ds ++ t ∷ [])) → Filled h g (pair f k) (us ++ t ∷ vs) c
    go (inl z) =
        let y = Is-begins (WholeAt h) (BegunAt h) (full-at h) (begins-at h) f q.0 q.2 q.4 in
        let r = pf i us t y.0 s (subst (λ (u : List Symbol). Begins (WholeAt h) (BegunAt h) f u y.0) z y.1) vs c fill in
        (r.0, r.1, inl r.2)
    go (inr z) =
        let l : Levels b level q.0 = subst (λ (x : Effect). Levels b x q.0) e (form-levels (WholeAt h) (levels-at h) b f q.0 q.2 q.4) in
        let there = spot-behind b i q.0 z.0 t l (subst (λ (u : List Symbol). Spot b i u t) z.1 s) in
        let r = pk i z.0 t m there (subst (λ (u : List Symbol). Begins (WholeAt h) (BegunAt h) k u m) z.2 q.5) vs c fill in
        (r.0, r.1, inr (q.0, z.0 ++ t ∷ vs, q.2, longer-by us q.0 z.0 vs t z.1, Is-up (WholeAt h) (WholeAt (above h g)) (whole-first h g) f q.0 q.2 q.4, r.2))

pub plants-either : (h g : ℕ) (b : Mode) {A : Type 0} (f k : Form A) → Plants h g b f → Plants h g b k → Plants h g b (either f k)
plants-either h g b f k pf pk i us t m s (inl p) vs c fill = let r = pf i us t m s p vs c fill in (r.0, r.1, inl r.2)
plants-either h g b f k pf pk i us t m s (inr p) vs c fill = let r = pk i us t m s p vs c fill in (r.0, r.1, inr r.2)

-- the item of a row in which the symbol stands
item-there : (h : ℕ) {A : Type 0} (f : Form A) (xs : List A) (a us : List Symbol) (t : Symbol) → a ≡ us ++ t ∷ [] → Each (Is (WholeAt h) f) a xs
    → (front : List Symbol) × (ds : List Symbol) × (ys : List A) × (us ≡ front ++ ds) × Each (Is (WholeAt h) f) front ys × ((m : ℕ) × Begins (WholeAt h) (BegunAt h) f (ds ++ t ∷ []) m)
item-there h f [] a us t e each = none-there us t (sym e ∙ each)
item-there h {A} f (x ∷ xs) a us t e each = go (where-stands us t each.0 each.1 (sym e ∙ each.2)) (λ us z. item-there h f xs each.1 us t z each.4)
  where
    go : (each.0 ≡ us ++ t ∷ []) ⊎ ((ds : List Symbol) × (us ≡ each.0 ++ ds) × (each.1 ≡ ds ++ t ∷ []))
        → ((us : List Symbol) → each.1 ≡ us ++ t ∷ [] → (front : List Symbol) × (ds : List Symbol) × (ys : List A) × (us ≡ front ++ ds) × Each (Is (WholeAt h) f) front ys × ((m : ℕ) × Begins (WholeAt h) (BegunAt h) f (ds ++ t ∷ []) m))
        → (front : List Symbol) × (ds : List Symbol) × (ys : List A) × (us ≡ front ++ ds) × Each (Is (WholeAt h) f) front ys × ((m : ℕ) × Begins (WholeAt h) (BegunAt h) f (ds ++ t ∷ []) m)
    go (inl z) later =
        let y = Is-begins (WholeAt h) (BegunAt h) (full-at h) (begins-at h) f each.0 x each.3 in
        ([], us, [], refl, refl, (y.0, subst (λ (u : List Symbol). Begins (WholeAt h) (BegunAt h) f u y.0) z y.1))
    go (inr z) later =
        let r = later z.0 z.2 in
        (each.0 ++ r.0, r.1, x ∷ r.2, z.1 ∙ ap (λ (u : List Symbol). each.0 ++ u) r.3 ∙ sym (append_assoc each.0 r.0 r.1), (each.0, r.0, refl, each.3, r.4), r.5)

each-up : (h g : ℕ) {A : Type 0} (f : Form A) (xs : List A) (a : List Symbol) → Each (Is (WholeAt h) f) a xs → Each (Is (WholeAt (above h g)) f) a xs
each-up h g f xs a each = Is-up (WholeAt h) (WholeAt (above h g)) (whole-first h g) (many f) a xs each

pub plants-many : (h g : ℕ) (b : Mode) {A : Type 0} (f : Form A) → effect b (many f) ≡ level → Plants h g b f → Plants h g b (many f)
plants-many h g b {A} f e pf i us t m s q vs c fill = go (where-stands us t q.0 q.1 q.3)
  where
    put : (front ds : List Symbol) (ys : List A) (j : ℕ) → us ≡ front ++ ds → Each (Is (WholeAt h) f) front ys → Begins (WholeAt h) (BegunAt h) f (ds ++ t ∷ []) j → Filled h g (many f) (us ++ t ∷ vs) c
    put front ds ys j z each p =
        let l : Levels b level front = subst (λ (x : Effect). Levels b x front) e (form-levels (WholeAt h) (levels-at h) b (many f) front ys each) in
        let there = spot-behind b i front ds t l (subst (λ (u : List Symbol). Spot b i u t) z s) in
        let r = pf i ds t j there p vs c fill in
        (r.0, r.1, (front, ds ++ t ∷ vs, ys, longer-by us front ds vs t z, each-up h g f ys front each, r.2))

    go : (q.0 ≡ us ++ t ∷ []) ⊎ ((ds : List Symbol) × (us ≡ q.0 ++ ds) × (q.1 ≡ ds ++ t ∷ [])) → Filled h g (many f) (us ++ t ∷ vs) c
    go (inl z) = let r = item-there h f q.2 q.0 us t z q.4 in put r.0 r.1 r.2 r.5.0 r.3 r.4 r.5.1
    go (inr z) = put q.0 z.0 q.2 m z.1 q.4 (subst (λ (u : List Symbol). Begins (WholeAt h) (BegunAt h) f u m) z.2 q.5)

-- within brackets only brackets are open
framed : (us : List Symbol) (cs ns ks : List ℕ) → Lids cs → Leads us cs ns → Lids ns × Leads us (cs ++ ks) (ns ++ ks)
framed [] cs ns ks l p = (subst Lids p l, ap (λ (x : List ℕ). x ++ ks) p)
framed (t ∷ us) [] ns ks l p = absurd p
framed (t ∷ us) (c ∷ cs) ns ks l p =
    let e = sym (lid-after c cs t l.0) ∙ p.1 in
    let r = framed us p.0 ns ks (after-lids c cs t p.0 l.0 l.1 e) p.2 in
    (r.0, (p.0 ++ ks, lid-after c (cs ++ ks) t l.0 ∙ after-more c cs ks t p.0 e, r.1))

in-brackets : (o : ℕ) (us : List Symbol) (t : Symbol) (k : ℕ) (ks : List ℕ) (l : ℕ) (ls ms : List ℕ) → has lids o ≡ true → Leads us (o ∷ k ∷ ks) (l ∷ ls) → has lids l ≡ false → Leads (us ++ t ∷ []) (o ∷ []) ms → ⊥
in-brackets o us t k ks l ls ms lid p plain q =
    let r = leads-split us (t ∷ []) (o ∷ []) ms q in
    go r.0 r.1 r.2
  where
    go : (ns : List ℕ) → Leads us (o ∷ []) ns → Leads (t ∷ []) ns ms → ⊥
    go [] a b = b
    go (n ∷ ns) a b =
        let f = framed us (o ∷ []) (n ∷ ns) (k ∷ ks) (lid, tt) a in
        let z : l ∷ ls ≡ n ∷ ns ++ k ∷ ks = leads-same us (o ∷ k ∷ ks) (l ∷ ls) (n ∷ ns ++ k ∷ ks) p f.1 in
        let y : l ≡ n = cc in
        not_both (has lids l) (subst (λ (x : ℕ). has lids x ≡ true) (sym y) f.0.0) plain

pub plants-closed : (h g : ℕ) (b : Mode) (o : ℕ) {B : Type 0} (f : Form B) → effect b (terminal (o ∷ [])) ≡ opening (suc o) → has lids (suc o) ≡ true → disjoint (o ∷ []) (75 ∷ ats) ≡ true → effect in_brackets f ≡ closing (suc o) → Plants h g b (pair (terminal (o ∷ [])) f)
plants-closed h g b o f eo lid d ef i us t m s (inl p) vs c fill = let r = plants-terminal h g b (o ∷ []) d i us t m s p vs c fill in (r.0, r.1, inl r.2)
plants-closed h g b o f eo lid d ef i us t m s (inr q) vs c fill = absurd (go (where-stands us t q.0 q.1 q.3))
  where
    go : (q.0 ≡ us ++ t ∷ []) ⊎ ((ds : List Symbol) × (us ≡ q.0 ++ ds) × (q.1 ≡ ds ++ t ∷ [])) → ⊥
    go (inl z) =
        let same : t ≡ q.2 = alone-there us t q.2 (sym z ∙ q.4.0) in
        not_both (has (75 ∷ ats) t.sort) (hole-sort i t.sort s.7) (disjoint-has (o ∷ []) (75 ∷ ats) t.sort d (subst (λ (x : Symbol). has (o ∷ []) x.sort ≡ true) (sym same) q.4.1))
    go (inr z) =
        let k = s.0 in
        let ks = s.1 in
        let opens : Levels b (opening (suc o)) q.0 = subst (λ (x : Effect). Levels b x q.0) eo (form-levels (WholeAt h) (levels-at h) b (terminal (o ∷ [])) q.0 q.2 q.4) in
        let y = leads-split q.0 z.0 (k ∷ ks) (s.2 ∷ s.3) (subst (λ (u : List Symbol). Leads u (k ∷ ks) (s.2 ∷ s.3)) z.1 s.5) in
        let inner : Leads z.0 (suc o ∷ k ∷ ks) (s.2 ∷ s.3) = subst (λ (x : List ℕ). Leads z.0 x (s.2 ∷ s.3)) (leads-same q.0 (k ∷ ks) y.0 (suc o ∷ k ∷ ks) y.1 (opens k ks s.4)) y.2 in
        let op : Opened in_brackets (closing (suc o)) (z.0 ++ t ∷ []) =
        subst (λ (x : Effect). Opened in_brackets x (z.0 ++ t ∷ [])) ef (form-opened (WholeAt h) (BegunAt h) (levels-at h) (opened-at h) in_brackets f (z.0 ++ t ∷ []) m (subst (λ (u : List Symbol). Begins (WholeAt h) (BegunAt h) f u m) z.2 q.5)) in
        let r = op [] in
        in-brackets (suc o) z.0 t k ks s.2 s.3 (r.0 ++ []) lid inner s.6 r.1
