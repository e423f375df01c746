-- What the two readings of an initialiser must keep to: where the whole is a constant form, its symbols are those of the expression.
use Rattle.std.proofs.Common.{◌≡◌, ℕ, zero, suc, Bool, true, false, cond, eqb, Option, Some, None, List, [], ◌∷◌, ◌++◌, refl, sym, ap, subst, ◌∙◌, inl, inr, ⊎_elim}
use Rattle.decl_tree.specs.declared.annotation.ValueText.{ValueText}
use Rattle.decl_grammar.specs.declared.symbol.Symbol.{Symbol}
use Rattle.decl_grammar.specs.declared.written.Declarator.{Declarator}
use Rattle.decl_grammar.specs.Reading.{has, closers, openers, after}
use Rattle.decl_grammar.specs.Form.{Rest, first_of, assigned, value_end, constant_value, turn, Is}
use Rattle.decl_grammar.specs.Expressions.{kept_alone, initialised, assigned_end, constant_alone, expression}
use Rattle.decl_grammar.proofs.OneToken.{not_both, within-has, disjoint-has, one_or}
use Rattle.decl_grammar.proofs.Fronts.{cuts}
use Rattle.decl_grammar.proofs.Rivals.{Rivals, Upto, Sole}
use Rattle.decl_grammar.proofs.Heights.{Whole, Started, full-any, heads-any}
use Rattle.decl_grammar.proofs.OpenBrackets.{lids, constant_stops, within_constant, open_after, Leads, leads-split, same_next, outside, lid-after, after-more, Lids, lid-behind, after-lids}
use Rattle.decl_grammar.proofs.Effects.{in_constant}
use Rattle.decl_grammar.proofs.Closed.{levels-any}
use Rattle.decl_grammar.proofs.RowFronts.{Front, expression-fronts}
use Rattle.decl_grammar.proofs.InitialiserEnds.{constant-ends, expression-ends}
use Rattle.decl_grammar.proofs.Calm.{initialiser-dominated}

-- ---- within a constant form the same brackets are open as within a declaration

none-more : (k : ℕ) (cs ks : List ℕ) (t : Symbol) → after k cs t ≡ None → after k (cs ++ ks) t ≡ None
none-more k cs ks t e = go (eqb t.sort k) (has closers t.sort) (has openers t.sort) e
  where
    go : (a b c : Bool) → cond a (Some cs) (cond b None (cond c (Some (suc t.sort ∷ k ∷ cs)) (Some (k ∷ cs)))) ≡ None
        → cond a (Some (cs ++ ks)) (cond b None (cond c (Some (suc t.sort ∷ k ∷ cs ++ ks)) (Some (k ∷ cs ++ ks)))) ≡ None
    go true b c e = absurd cc
    go false true c e = refl
    go false false true e = absurd cc
    go false false false e = absurd cc

nothing-leads : (us : List Symbol) (k : ℕ) → Leads us [] (k ∷ []) → ⊥
nothing-leads [] k l = cc
nothing-leads (t ∷ us) k l = l

no-none : (o : Option (List ℕ)) (next : List ℕ) → o ≡ None → o ≡ Some next → ⊥
no-none o next p q = cc

-- what holds of the symbols behind one
abbrev Below : List Symbol → List ℕ → Type 0
Below us ns = (cs : List ℕ) → Lids cs → Leads us (cs ++ 67 ∷ []) (67 ∷ []) → Leads us (cs ++ 200 ∷ []) ns → ns ≡ 200 ∷ []

at-bottom : (t : Symbol) (us : List Symbol) (ns : List ℕ) → Below us ns → (a b c : Bool) → has (67 ∷ []) t.sort ≡ a → has constant_stops t.sort ≡ b → has openers t.sort ≡ c
    → Leads (t ∷ us) (67 ∷ []) (67 ∷ []) → Leads (t ∷ us) (200 ∷ []) ns → ns ≡ 200 ∷ []
at-bottom t us ns below true b c ea eb ec p q =
    let e : open_after 67 [] t ≡ Some [] = lid-after 67 [] t refl ∙ rw ea refl in
    absurd (nothing-leads us 67 (subst (λ (l : List ℕ). Leads us l (67 ∷ [])) (same_next p.0 [] (open_after 67 [] t) p.1 e) p.2))
at-bottom t us ns below false true c ea eb ec p q =
    let e : within_constant [] t ≡ None = rw (ea, eb) refl in
    absurd (no-none (within_constant [] t) q.0 e q.1)
at-bottom t us ns below false false true ea eb ec p q =
    let close : has closers t.sort ≡ false = outside closers constant_stops t.sort refl eb in
    let e : open_after 67 [] t ≡ Some (suc t.sort ∷ 67 ∷ []) = lid-after 67 [] t refl ∙ rw (ea, close, ec) refl in
    let d : within_constant [] t ≡ Some (suc t.sort ∷ 200 ∷ []) = rw (ea, eb, ec) refl in
    below (suc t.sort ∷ []) (lid-behind t.sort ec, tt)
    (subst (λ (l : List ℕ). Leads us l (67 ∷ [])) (same_next p.0 (suc t.sort ∷ 67 ∷ []) (open_after 67 [] t) p.1 e) p.2)
    (subst (λ (l : List ℕ). Leads us l ns) (same_next q.0 (suc t.sort ∷ 200 ∷ []) (within_constant [] t) q.1 d) q.2)
at-bottom t us ns below false false false ea eb ec p q =
    let close : has closers t.sort ≡ false = outside closers constant_stops t.sort refl eb in
    let e : open_after 67 [] t ≡ Some (67 ∷ []) = lid-after 67 [] t refl ∙ rw (ea, close, ec) refl in
    let d : within_constant [] t ≡ Some (200 ∷ []) = rw (ea, eb, ec) refl in
    below [] tt
    (subst (λ (l : List ℕ). Leads us l (67 ∷ [])) (same_next p.0 (67 ∷ []) (open_after 67 [] t) p.1 e) p.2)
    (subst (λ (l : List ℕ). Leads us l ns) (same_next q.0 (200 ∷ []) (within_constant [] t) q.1 d) q.2)

in-bracket : (t : Symbol) (us : List Symbol) (ns : List ℕ) (c : ℕ) (cs : List ℕ) → has lids c ≡ true → Lids cs → Below us ns → (o : Option (List ℕ)) → after c cs t ≡ o
    → Leads (t ∷ us) (c ∷ cs ++ 67 ∷ []) (67 ∷ []) → Leads (t ∷ us) (c ∷ cs ++ 200 ∷ []) ns → ns ≡ 200 ∷ []
in-bracket t us ns c cs l ls below None e p q =
    let d : open_after c (cs ++ 67 ∷ []) t ≡ None = lid-after c (cs ++ 67 ∷ []) t l ∙ none-more c cs (67 ∷ []) t e in
    absurd (no-none (open_after c (cs ++ 67 ∷ []) t) p.0 d p.1)
in-bracket t us ns c cs l ls below (Some next) e p q =
    let d : open_after c (cs ++ 67 ∷ []) t ≡ Some (next ++ 67 ∷ []) = lid-after c (cs ++ 67 ∷ []) t l ∙ after-more c cs (67 ∷ []) t next e in
    let f : open_after c (cs ++ 200 ∷ []) t ≡ Some (next ++ 200 ∷ []) = lid-after c (cs ++ 200 ∷ []) t l ∙ after-more c cs (200 ∷ []) t next e in
    below next (after-lids c cs t next l ls e)
    (subst (λ (x : List ℕ). Leads us x (67 ∷ [])) (same_next p.0 (next ++ 67 ∷ []) (open_after c (cs ++ 67 ∷ []) t) p.1 d) p.2)
    (subst (λ (x : List ℕ). Leads us x ns) (same_next q.0 (next ++ 200 ∷ []) (open_after c (cs ++ 200 ∷ []) t) q.1 f) q.2)

longer : (c k : ℕ) (cs : List ℕ) → c ∷ cs ++ k ∷ [] ≡ k ∷ [] → ⊥
longer c k [] e = cc
longer c k (d ∷ cs) e = cc

-- where the brackets of a declaration are closed, so are those of a constant form
below-all : (us : List Symbol) (ns : List ℕ) → Below us ns
below-all [] ns [] ls p q = sym q
below-all [] ns (c ∷ cs) ls p q = absurd (longer c 67 cs p)
below-all (t ∷ us) ns [] ls p q = at-bottom t us ns (below-all us ns) (has (67 ∷ []) t.sort) (has constant_stops t.sort) (has openers t.sort) refl refl refl p q
below-all (t ∷ us) ns (c ∷ cs) ls p q = in-bracket t us ns c cs ls.0 ls.1 (below-all us ns) (after c cs t) refl p q

-- ---- what stands behind the expression is the `;`

ends-constant : (d : Symbol) (ds : List Symbol) → has (first_of (value_end assigned)) d.sort ≡ true → Leads (d ∷ ds) (200 ∷ []) (200 ∷ []) → ⊥
ends-constant d ds e l =
    ⊎_elim
    (λ (p : has (67 ∷ []) d.sort ≡ true).
    let z : within_constant [] d ≡ Some [] = rw p refl in
    nothing-leads ds 200 (subst (λ (x : List ℕ). Leads ds x (200 ∷ [])) (same_next l.0 [] (within_constant [] d) l.1 z) l.2))
    (λ (p : has (68 ∷ []) d.sort ≡ true).
    let z : within_constant [] d ≡ None = rw (disjoint-has (68 ∷ []) (67 ∷ []) d.sort refl p, within-has (68 ∷ []) constant_stops d.sort refl p) refl in
    no-none (within_constant [] d) l.0 z l.1)
    (one_or (has (67 ∷ []) d.sort) (has (68 ∷ []) d.sort) e)

no-list : (t : Symbol) (ds : List Declarator) → has (67 ∷ []) t.sort ≡ true → Whole (value_end assigned) (t ∷ []) ds → ds ≡ []
unfolding assigned_end
no-list t ds e (zero, is) = absurd is
no-list t ds e (suc h, inl is) = is.2
no-list t ds e (suc h, inr is) = absurd (go is.1.0 is.1.1 is.0.0 is.1.2 is.1.3.0 is.1.3.1)
  where
    go : (us vs : List Symbol) (s : Symbol) → t ∷ [] ≡ us ++ vs → us ≡ s ∷ [] → has (68 ∷ []) s.sort ≡ true → ⊥
    go us vs s p q k =
        let r : t ∷ [] ≡ s ∷ vs = p ∙ ap (λ (x : List Symbol). x ++ vs) q in
        let same : t ≡ s = cc in
        not_both (has (67 ∷ []) t.sort) e (subst (λ (x : Symbol). has (67 ∷ []) x.sort ≡ false) (sym same) (disjoint-has (68 ∷ []) (67 ∷ []) s.sort refl k))

last-one : (t : Symbol) (ds vs : List Symbol) → (vs ≡ [] → ⊥) → t ∷ [] ≡ ds ++ vs → (ds ≡ []) × (vs ≡ t ∷ [])
last-one t [] vs some e = (refl, sym e)
last-one t (d ∷ ds) [] some e = absurd (some refl)
last-one t (d ∷ []) (v ∷ vs) some e = absurd cc
last-one t (d ∷ c ∷ ds) (v ∷ vs) some e = absurd cc

append-none : (us ds : List Symbol) → ds ≡ [] → us ++ ds ≡ us
append-none [] ds e = e
append-none (u ∷ us) ds e = ap (λ (x : List Symbol). u ∷ x) (append-none us ds e)

-- a constant form before its `;` is the whole expression, and no declarator follows
constant-alone : (us : List Symbol) (c : ValueText) (t : Symbol) (z : Rest assigned) → Whole constant_value us c → has (67 ∷ []) t.sort ≡ true → Front assigned (us ++ t ∷ []) z → (us ≡ z.0) × (z.1 ≡ [])
constant-alone us c t z whole semicolon front =
    ⊎_elim
    (λ (p : (d : List Symbol) × (z.0 ≡ us ++ d) × (t ∷ [] ≡ d ++ front.0)).
    let q = last-one t p.0 front.0 (λ e. full-any (value_end assigned) z.1 (subst (λ (x : List Symbol). Whole (value_end assigned) x z.1) e front.2)) p.2 in
    (sym (p.1 ∙ append-none us p.0 q.0), no-list t z.1 semicolon (subst (λ (x : List Symbol). Whole (value_end assigned) x z.1) q.1 front.2)))
    (λ (p : (d : List Symbol) × (us ≡ z.0 ++ d) × (front.0 ≡ d ++ t ∷ [])). beyond p.0 p.1 p.2)
    (cuts us (t ∷ []) z.0 front.0 front.1)
  where
    beyond : (d : List Symbol) → us ≡ z.0 ++ d → front.0 ≡ d ++ t ∷ [] → (us ≡ z.0) × (z.1 ≡ [])
    beyond [] e f = (e ∙ append-none z.0 [] refl, no-list t z.1 semicolon (subst (λ (x : List Symbol). Whole (value_end assigned) x z.1) f front.2))
    beyond (d ∷ ds) e f =
        let head : has (first_of (value_end assigned)) d.sort ≡ true = heads-any (value_end assigned) d (ds ++ t ∷ []) z.1 (subst (λ (x : List Symbol). Whole (value_end assigned) x z.1) f front.2) in
        let l : Leads us (200 ∷ []) (200 ∷ []) = levels-any in_constant constant_value us c whole 200 [] refl in
        let q = leads-split z.0 (d ∷ ds) (200 ∷ []) (200 ∷ []) (subst (λ (x : List Symbol). Leads x (200 ∷ []) (200 ∷ [])) e l) in
        let there : q.0 ≡ 200 ∷ [] = below-all z.0 q.0 [] tt (front.3 67 [] refl) q.1 in
        absurd (ends-constant d ds head (subst (λ (x : List ℕ). Leads (d ∷ ds) x (200 ∷ [])) there q.2))

same-values : (a us : List Symbol) (z : Rest assigned) → a ≡ us → us ≡ z.0 → z.1 ≡ [] → kept_alone a ≡ initialised z
same-values a us z p q r = rw (p ∙ q, r) refl

initialiser-agree : (l : Option ℕ) (ts : List Symbol) (x y : Option ValueText × List Declarator) → Is (Sole Whole (Upto l)) (turn kept_alone constant_alone) ts x → Is (Upto l) (turn initialised (expression assigned)) ts y → x ≡ y
unfolding constant_alone
initialiser-agree l ts x y p q =
    let b = p.1.1 in
    let front = expression-fronts l ts q.0 q.1 in
    let whole : ts ≡ b.0 ++ p.1.0.1 ∷ [] = b.2 ∙ ap (λ (u : List Symbol). b.0 ++ u) b.4.0 in
    let r = constant-alone b.0 b.3.0.1 p.1.0.1 q.0 b.3.1.0.0 b.4.1 (subst (λ (u : List Symbol). Front assigned u q.0) whole front) in
    p.2 ∙ same-values p.0 b.0 q.0 (p.1.2 ∙ b.3.2 ∙ b.3.1.1) r.0 r.1 ∙ sym q.2

pub initialiser-rivals : Rivals Whole Started (turn kept_alone constant_alone) (turn initialised (expression assigned))
initialiser-rivals = record {
  agree = initialiser-agree;
  first_ends = constant-ends;
  other_ends = expression-ends;
  dominated = initialiser-dominated;
}
