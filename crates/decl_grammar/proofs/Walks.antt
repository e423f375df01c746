-- Annotations, and whether a bracket or a type stands behind them: symbol by symbol.
use Rattle.std.proofs.Common.{◌≡◌, ℕ, Bool, true, false, List, [], ◌∷◌, ◌++◌, ◌⊎◌, Option, Some, None, refl, sym, ap, subst, ◌∙◌, inl, inr, ⊎_elim}
use Rattle.std.specs.Prelude.{if◌then◌else◌}
use Rattle.std.specs.Option.{option_map_or}
use Rattle.decl_grammar.specs.declared.symbol.Symbol.{Symbol}
use Rattle.decl_grammar.specs.Reading.{has}
use Rattle.decl_grammar.specs.Form.{names, ats, primitive_sorts, Each, Is, Begins}
use Rattle.decl_grammar.specs.Types.{name, dot_name, name_chain}
use Rattle.decl_grammar.proofs.OneToken.{disjoint-has}
use Rattle.decl_grammar.proofs.Heights.{Whole, Started}
use Rattle.decl_grammar.proofs.OpenBrackets.{open_after, Leads}

-- Before annotations, behind an `@`, behind a name of one, within its brackets, behind these; behind a `[`, and behind the first symbol of a type.
pub data Phase : Type 0 where
  ready : Phase
  marked : Phase
  named_there : Phase
  inside : List ℕ → Phase
  shut : Phase
  dims : Phase
  typed : Phase

abbrev pub ending : Symbol → Option Phase
ending t = if has ats t.sort then Some marked else if has (65 ∷ []) t.sort then Some dims else if has (names ++ primitive_sorts) t.sort then Some typed else None

abbrev pub within_brackets : List ℕ → Phase
within_brackets [] = shut
within_brackets (k ∷ ks) = inside (k ∷ ks)

abbrev pub next_phase : Phase → Symbol → Option Phase
next_phase ready t = if has ats t.sort then Some marked else if has (65 ∷ []) t.sort then Some dims else None
next_phase marked t = if has names t.sort then Some named_there else None
next_phase named_there t = if has (69 ∷ []) t.sort then Some marked else if has (61 ∷ []) t.sort then Some (inside (62 ∷ [])) else ending t
next_phase (inside []) t = None
next_phase (inside (k ∷ ks)) t = option_map_or (λ ms. Some (within_brackets ms)) (open_after k ks t) None
next_phase shut t = ending t
next_phase dims t = Some dims
next_phase typed t = Some typed

abbrev pub Walks : List Symbol → Phase → Phase → Type 0
Walks [] p q = p ≡ q
Walks (t ∷ ts) p r = (q : Phase) × (next_phase p t ≡ Some q) × Walks ts q r

same_phase : (a b : Phase) (o : Option Phase) → o ≡ Some a → o ≡ Some b → a ≡ b
same_phase a b o p q = cc

pub walks-same : (us : List Symbol) (p q r : Phase) → Walks us p q → Walks us p r → q ≡ r
walks-same [] p q r a b = sym a ∙ b
walks-same (t ∷ us) p q r a b = walks-same us a.0 q r a.2 (subst (λ (x : Phase). Walks us x r) (same_phase b.0 a.0 (next_phase p t) b.1 a.1) b.2)

pub walks-append : (us vs : List Symbol) (p q r : Phase) → Walks us p q → Walks vs q r → Walks (us ++ vs) p r
walks-append [] vs p q r a b = subst (λ (x : Phase). Walks vs x r) (sym a) b
walks-append (t ∷ us) vs p q r a b = (a.0, a.1, walks-append us vs a.0 q r a.2 b)

pub walks-dims : (us : List Symbol) → Walks us dims dims
walks-dims [] = refl
walks-dims (t ∷ us) = (dims, refl, walks-dims us)

pub walks-typed : (us : List Symbol) → Walks us typed typed
walks-typed [] = refl
walks-typed (t ∷ us) = (typed, refl, walks-typed us)

-- brackets of an annotation
shut-end : (us : List Symbol) (ms : List ℕ) → Leads us [] ms → Walks us shut (within_brackets ms)
shut-end [] ms l = ap within_brackets l
shut-end (t ∷ us) ms l = absurd l

pub leads-inside : (k : ℕ) (ks ms : List ℕ) (us : List Symbol) → Leads us (k ∷ ks) ms → Walks us (inside (k ∷ ks)) (within_brackets ms)
leads-inside k ks ms [] l = ap within_brackets l
leads-inside k ks ms (t ∷ us) l = go (λ j js m. leads-inside j js ms us m) l.0 l.1 l.2
  where
    go : ((j : ℕ) (js : List ℕ) → Leads us (j ∷ js) ms → Walks us (inside (j ∷ js)) (within_brackets ms)) → (js : List ℕ) → open_after k ks t ≡ Some js → Leads us js ms → Walks (t ∷ us) (inside (k ∷ ks)) (within_brackets ms)
    go later [] e m = (shut, rw e refl, shut-end us ms m)
    go later (j ∷ js) e m = (inside (j ∷ js), rw e refl, later j js m)

pub leads-shut : (k : ℕ) (ks : List ℕ) (us : List Symbol) → Leads us (k ∷ ks) [] → Walks us (inside (k ∷ ks)) shut
leads-shut k ks us l = leads-inside k ks [] us l

-- ---- names

-- where an annotation may begin
abbrev pub fresh : Phase → Bool
fresh ready = true
fresh marked = false
fresh named_there = true
fresh (inside ks) = false
fresh shut = true
fresh dims = false
fresh typed = false

-- neither behind a bracket nor behind a type
abbrev pub going : Phase → Bool
going ready = true
going marked = true
going named_there = true
going (inside ks) = true
going shut = true
going dims = false
going typed = false

pub at-fresh : (p : Phase) (t : Symbol) → fresh p ≡ true → has ats t.sort ≡ true → next_phase p t ≡ Some marked
at-fresh ready t e h = rw h refl
at-fresh named_there t e h = rw (disjoint-has ats (69 ∷ []) t.sort refl h, disjoint-has ats (61 ∷ []) t.sort refl h, h) refl
at-fresh shut t e h = rw h refl
at-fresh marked t e h = absurd cc
at-fresh (inside ks) t e h = absurd cc
at-fresh dims t e h = absurd cc
at-fresh typed t e h = absurd cc

pub one-step : (p q : Phase) (t : Symbol) → next_phase p t ≡ Some q → Walks (t ∷ []) p q
one-step p q t e = (q, e, refl)

name-walks : (us : List Symbol) (x : List ℕ) → Is Whole name us x → Walks us marked named_there
unfolding name
name-walks us x is = subst (λ (u : List Symbol). Walks u marked named_there) (sym is.1.0) (one-step marked named_there is.0 (rw is.1.1 refl))

name-begun : (us : List Symbol) (n : ℕ) → Begins Whole Started name us n → Walks us marked marked ⊎ Walks us marked named_there
unfolding name
name-begun us n (z, inl e) = inl (subst (λ (u : List Symbol). Walks u marked marked) (sym e) refl)
name-begun us n (z, inr p) = inr (subst (λ (u : List Symbol). Walks u marked named_there) (sym p.1) (one-step marked named_there p.0 (rw p.2 refl)))

dot-step : (t : Symbol) → has (69 ∷ []) t.sort ≡ true → next_phase named_there t ≡ Some marked
dot-step t e = rw e refl

dot-walks : (us : List Symbol) (x : List ℕ) → Is Whole dot_name us x → Walks us named_there named_there
unfolding dot_name
dot-walks us x is =
    let q = is.1 in
    subst (λ (u : List Symbol). Walks u named_there named_there) (sym (q.2 ∙ ap (λ (a : List Symbol). a ++ q.1) q.3.0))
    (marked, dot-step is.0.0 q.3.1, name-walks q.1 is.0.1 q.4)

dot-begun : (us : List Symbol) (n : ℕ) → Begins Whole Started dot_name us n → (p : Phase) × (going p ≡ true) × Walks us named_there p
unfolding dot_name
dot-begun us n (inl (z, inl e)) = (named_there, refl, subst (λ (u : List Symbol). Walks u named_there named_there) (sym e) refl)
dot-begun us n (inl (z, inr p)) = (marked, refl, subst (λ (u : List Symbol). Walks u named_there marked) (sym p.1) (one-step named_there marked p.0 (dot-step p.0 p.2)))
dot-begun us n (inr q) =
    let whole : us ≡ q.2 ∷ q.1 = q.3 ∙ ap (λ (a : List Symbol). a ++ q.1) q.4.0 in
    ⊎_elim
    (λ (l : Walks q.1 marked marked). (marked, refl, subst (λ (u : List Symbol). Walks u named_there marked) (sym whole) (marked, dot-step q.2 q.4.1, l)))
    (λ (l : Walks q.1 marked named_there). (named_there, refl, subst (λ (u : List Symbol). Walks u named_there named_there) (sym whole) (marked, dot-step q.2 q.4.1, l)))
    (name-begun q.1 n q.5)

each-walks : {A : Type 0} (P : List Symbol → A → Type 0) (p : Phase) → ((us : List Symbol) (x : A) → P us x → Walks us p p) → (xs : List A) (us : List Symbol) → Each P us xs → Walks us p p
each-walks P p h [] us each = subst (λ (u : List Symbol). Walks u p p) (sym each) refl
each-walks P p h (x ∷ xs) us each = subst (λ (u : List Symbol). Walks u p p) (sym each.2) (walks-append each.0 each.1 p p p (h each.0 x each.3) (each-walks P p h xs each.1 each.4))

pub chain-walks : (us : List Symbol) (x : List ℕ) → Is Whole name_chain us x → Walks us marked named_there
unfolding name_chain
chain-walks us x is =
    let q = is.1 in
    subst (λ (u : List Symbol). Walks u marked named_there) (sym q.2)
    (walks-append q.0 q.1 marked named_there named_there (name-walks q.0 is.0.0 q.3) (each-walks (Is Whole dot_name) named_there dot-walks is.0.1 q.1 q.4))

abbrev pub Goes : List Symbol → Phase → Type 0
Goes us p = (q : Phase) × (going q ≡ true) × Walks us p q

pub goes-behind : (us vs : List Symbol) (p q : Phase) → Walks us p q → Goes vs q → Goes (us ++ vs) p
goes-behind us vs p q w g = (g.0, g.1, walks-append us vs p q g.0 w g.2)

pub goes-at : (us vs : List Symbol) (p : Phase) → us ≡ vs → Goes vs p → Goes us p
goes-at us vs p e g = subst (λ (u : List Symbol). Goes u p) (sym e) g

goes-name : (us : List Symbol) (n : ℕ) → Begins Whole Started name us n → Goes us marked
goes-name us n b = ⊎_elim (λ (l : Walks us marked marked). (marked, refl, l)) (λ (l : Walks us marked named_there). (named_there, refl, l)) (name-begun us n b)

pub chain-begun : (us : List Symbol) (n : ℕ) → Begins Whole Started name_chain us n → Goes us marked
unfolding name_chain
chain-begun us n (inl b) = goes-name us n b
chain-begun us n (inr q) =
    let r = q.5 in
    goes-at us (q.0 ++ q.1) marked q.3 (goes-behind q.0 q.1 marked named_there (name-walks q.0 q.2 q.4)
    (goes-at q.1 (r.0 ++ r.1) named_there r.3 (goes-behind r.0 r.1 named_there named_there (each-walks (Is Whole dot_name) named_there dot-walks r.2 r.0 r.4) (dot-begun r.1 n r.5))))
