-- Each front of what begins a form begins it.
use Rattle.std.proofs.Common.{◌≡◌, ℕ, suc, Bool, true, false, cond, List, [], ◌∷◌, ◌++◌, ◌⊎◌, Option, Some, None, refl, sym, ap, subst, ◌∙◌, inl, inr, ⊎_elim}
use Rattle.std.specs.Option.{option_map_or}
use Rattle.decl_grammar.specs.declared.symbol.Symbol.{Symbol}
use Rattle.decl_grammar.specs.Reading.{done, fault, ◌>>=◌, one_at, after, pass, has, skip}
use Rattle.decl_grammar.specs.Form.{Nest, Form, terminal, pair, turn, maybe, many, either, nest, over, seen, attempt, Each, Wholes, Begun, Is, Begins, opened}
use Rattle.decl_grammar.proofs.Heads.{Full, WholeBegins, nil_parts, Begins-nil, Is-begins}
use Rattle.decl_grammar.proofs.Told.{parts}

-- two ways to cut one list
pub cuts : {A : Type 0} (us vs a c : List A) → us ++ vs ≡ a ++ c → ((d : List A) × (a ≡ us ++ d) × (vs ≡ d ++ c)) ⊎ ((d : List A) × (us ≡ a ++ d) × (c ≡ d ++ vs))
cuts [] vs a c e = inl (a, refl, e)
cuts (u ∷ us) vs [] c e = inr (u ∷ us, refl, sym e)
cuts {A} (u ∷ us) vs (x ∷ a) c e =
    let same : u ≡ x = cc in
    ⊎_elim
    (λ (p : (d : List A) × (a ≡ us ++ d) × (vs ≡ d ++ c)). inl (p.0, cc, p.2))
    (λ (p : (d : List A) × (us ≡ a ++ d) × (c ≡ d ++ vs)). inr (p.0, cc, p.2))
    (cuts us vs a c cc)

pass-front : (ks : List ℕ) (us vs : List Symbol) → (pass ks (us ++ vs) ≡ fault []) ⊎ (pass ks (us ++ vs) ≡ done tt []) → (pass ks us ≡ fault []) ⊎ (pass ks us ≡ done tt [])
unfolding pass
pass-front [] [] vs e = inr refl
pass-front (k ∷ ks) [] vs e = inl refl
pass-front [] (u ∷ us) vs (inl e) = absurd cc
pass-front [] (u ∷ us) vs (inr e) = absurd cc
pass-front (k ∷ ks) (u ∷ us) vs e = go (after k ks u) e (λ next h. pass-front next us vs h)
  where
    go : (o : Option (List ℕ)) → (option_map_or (λ next. pass next (us ++ vs)) o (fault (u ∷ us ++ vs)) ≡ fault []) ⊎ (option_map_or (λ next. pass next (us ++ vs)) o (fault (u ∷ us ++ vs)) ≡ done tt [])
        → ((next : List ℕ) → (pass next (us ++ vs) ≡ fault []) ⊎ (pass next (us ++ vs) ≡ done tt []) → (pass next us ≡ fault []) ⊎ (pass next us ≡ done tt []))
        → (option_map_or (λ next. pass next us) o (fault (u ∷ us)) ≡ fault []) ⊎ (option_map_or (λ next. pass next us) o (fault (u ∷ us)) ≡ done tt [])
    go None (inl e) h = absurd cc
    go None (inr e) h = absurd cc
    go (Some next) e h = h next e

skip-front : (opens : List ℕ) (us vs : List Symbol) → (skip opens (us ++ vs) ≡ fault []) ⊎ (skip opens (us ++ vs) ≡ done tt []) → (skip opens us ≡ fault []) ⊎ (skip opens us ≡ done tt [])
unfolding one_at
skip-front opens [] vs e = inl refl
skip-front opens (u ∷ us) vs e = go (has opens u.sort) e
  where
    go : (c : Bool) → ((cond c (done u (us ++ vs)) (fault (u ∷ us ++ vs)) >>= λ t rest. pass (suc t.sort ∷ []) rest) ≡ fault []) ⊎ ((cond c (done u (us ++ vs)) (fault (u ∷ us ++ vs)) >>= λ t rest. pass (suc t.sort ∷ []) rest) ≡ done tt [])
        → ((cond c (done u us) (fault (u ∷ us)) >>= λ t rest. pass (suc t.sort ∷ []) rest) ≡ fault []) ⊎ ((cond c (done u us) (fault (u ∷ us)) >>= λ t rest. pass (suc t.sort ∷ []) rest) ≡ done tt [])
    go true e = pass-front (suc u.sort ∷ []) us vs e
    go false (inl e) = absurd cc
    go false (inr e) = absurd cc

-- each front of what begins a form that holds itself begins it
abbrev pub NestFronts : Begun → Type 0
NestFronts b = (m : Nest) (us vs : List Symbol) (k : ℕ) → b m (us ++ vs) k → (j : ℕ) × b m us j

-- a front of a row of whole parts
each-front : (w : Wholes) (b : Begun) {A : Type 0} (f : Form A) → ((ts : List Symbol) (x : A) → Is w f ts x → (us vs : List Symbol) → ts ≡ us ++ vs → (j : ℕ) × Begins w b f us j)
    → (xs : List A) (ts us vs : List Symbol) → ts ≡ us ++ vs → Each (Is w f) ts xs → (j : ℕ) × Begins w b (many f) us j
each-front w b f h [] ts us vs z each = (0, subst (λ (u : List Symbol). Begins w b (many f) u 0) (sym (nil_parts us vs (sym each ∙ z)).0) (Begins-nil w b (many f)))
each-front w b {A} f h (x ∷ xs) ts us vs z each =
    ⊎_elim
    (λ (p : (d : List Symbol) × (each.0 ≡ us ++ d) × (vs ≡ d ++ each.1)). let q = h each.0 x each.3 us p.0 p.1 in (q.0, ([], us, [], refl, refl, q.1)))
    (λ (p : (d : List Symbol) × (us ≡ each.0 ++ d) × (each.1 ≡ d ++ vs)).
    let q = each-front w b f h xs each.1 p.0 vs p.2 each.4 in
    let r = q.1 in
    (q.0, (each.0 ++ r.0, r.1, x ∷ r.2, parts us each.0 p.0 r.0 r.1 p.1 r.3, (each.0, r.0, refl, each.3, r.4), r.5)))
    (cuts us vs each.0 each.1 (sym z ∙ each.2))

pub Begins-front : (w : Wholes) (b : Begun) → Full w → WholeBegins w b → NestFronts b → {A : Type 0} (f : Form A) (ts us vs : List Symbol) (n : ℕ) → ts ≡ us ++ vs → Begins w b f ts n → (j : ℕ) × Begins w b f us j
Begins-front w b full wb nb (terminal k) ts [] vs n z p = (0, Begins-nil w b (terminal k))
Begins-front w b full wb nb (terminal k) ts (u ∷ us) vs n z (p, inl e) = absurd cc
Begins-front w b full wb nb (terminal k) ts (u ∷ us) vs n z (p, inr q) =
    let rest : [] ≡ us ++ vs = cc in
    let same : q.0 ≡ u = cc in
    (0, (refl, inr (q.0, ap (λ (x : List Symbol). u ∷ x) (nil_parts us vs rest).0 ∙ ap (λ (t : Symbol). t ∷ []) (sym same), q.2)))
Begins-front w b full wb nb (pair f g) ts us vs n z (inl p) = let q = Begins-front w b full wb nb f ts us vs n z p in (q.0, inl q.1)
Begins-front w b full wb nb (pair {A} {B} f g) ts us vs n z (inr q) =
    ⊎_elim
    (λ (p : (d : List Symbol) × (q.0 ≡ us ++ d) × (vs ≡ d ++ q.1)).
    let k = Is-begins w b full wb f q.0 q.2 q.4 in
    let r = Begins-front w b full wb nb f q.0 us p.0 k.0 p.1 k.1 in
    let s : Begins w b (pair f g) us r.0 = inl r.1 in (r.0, s))
    (λ (p : (d : List Symbol) × (us ≡ q.0 ++ d) × (q.1 ≡ d ++ vs)).
    let r = Begins-front w b full wb nb g q.1 p.0 vs n p.2 q.5 in
    let s : Begins w b (pair f g) us r.0 = inr (q.0, p.0, q.2, p.1, q.4, r.1) in (r.0, s))
    (cuts us vs q.0 q.1 (sym z ∙ q.3))
Begins-front w b full wb nb (turn h f) ts us vs n z p = Begins-front w b full wb nb f ts us vs n z p
Begins-front w b full wb nb (seen h f) ts us vs n z p = Begins-front w b full wb nb f ts us vs n z p
Begins-front w b full wb nb (maybe f) ts us vs n z p = Begins-front w b full wb nb f ts us vs n z p
Begins-front w b full wb nb (many {A} f) ts us vs n z q =
    ⊎_elim
    (λ (p : (d : List Symbol) × (q.0 ≡ us ++ d) × (vs ≡ d ++ q.1)).
    each-front w b f (λ ts x is us vs z. let k = Is-begins w b full wb f ts x is in Begins-front w b full wb nb f ts us vs k.0 z k.1) q.2 q.0 us p.0 p.1 q.4)
    (λ (p : (d : List Symbol) × (us ≡ q.0 ++ d) × (q.1 ≡ d ++ vs)).
    let r = Begins-front w b full wb nb f q.1 p.0 vs n p.2 q.5 in
    let s : Begins w b (many f) us r.0 = (q.0, p.0, q.2, p.1, q.4, r.1) in (r.0, s))
    (cuts us vs q.0 q.1 (sym z ∙ q.3))
Begins-front w b full wb nb (either f g) ts us vs n z (inl p) = let q = Begins-front w b full wb nb f ts us vs n z p in (q.0, inl q.1)
Begins-front w b full wb nb (either f g) ts us vs n z (inr p) = let q = Begins-front w b full wb nb g ts us vs n z p in (q.0, inr q.1)
Begins-front w b full wb nb (nest m) ts [] vs n z p = (0, inl (refl, refl))
Begins-front w b full wb nb (nest m) ts (u ∷ us) vs n z (inl p) = absurd cc
Begins-front w b full wb nb (nest m) ts (u ∷ us) vs n z (inr q) =
    let r = nb m (u ∷ us) vs q.2 (subst (λ (x : List Symbol). b m x q.2) z q.5) in
    (opened m r.0, inr (u, us, r.0, refl, refl, r.1))
Begins-front w b full wb nb (over opens) ts us vs n z (p, inl e) = (0, (refl, skip-front opens us vs (inl (ap (skip opens) (sym z) ∙ e))))
Begins-front w b full wb nb (over opens) ts us vs n z (p, inr e) = (0, (refl, skip-front opens us vs (inr (ap (skip opens) (sym z) ∙ e))))
Begins-front w b full wb nb (attempt f g) ts us vs n z (inl p) = let q = Begins-front w b full wb nb f ts us vs n z p in (q.0, inl q.1)
Begins-front w b full wb nb (attempt f g) ts us vs n z (inr p) = let q = Begins-front w b full wb nb g ts us vs n z p in (q.0, inr q.1)
