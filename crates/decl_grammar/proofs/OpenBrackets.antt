-- Which brackets are open behind symbols, and type arguments where they are counted.
use Rattle.std.proofs.Common.{◌≡◌, ℕ, suc, arith, Bool, true, false, cond, eqb, List, [], ◌∷◌, ◌++◌, Option, Some, None, refl, sym, ap, subst, ◌∙◌}
use Rattle.std.specs.Prelude.{if◌then◌else◌, ◌==◌}
use Rattle.std.specs.Option.{option_map_or}
use Rattle.std.proofs.lemmas.Bool.{eqb-true}
use Rattle.decl_grammar.specs.declared.symbol.Symbol.{Symbol}
use Rattle.decl_grammar.specs.Reading.{has, done, fault, openers, closers, after, pass}
use Rattle.decl_grammar.proofs.OneToken.{within, within-has, disjoint-has, not_both}

-- what closes one of the brackets, and a `;`
abbrev pub lids : List ℕ
lids = 62 ∷ 64 ∷ 66 ∷ 67 ∷ []

-- what stands in no type between the `<` and the `>` of its arguments: closing brackets, `;`, `=`, `{`, `new` and `instanceof`
abbrev pub stops : List ℕ
stops = 62 ∷ 64 ∷ 66 ∷ 67 ∷ 73 ∷ 63 ∷ 40 ∷ 35 ∷ []

-- what stands in no constant form but within brackets: closing brackets, `,`, `<`, `new` and `instanceof`
abbrev pub constant_stops : List ℕ
constant_stops = 62 ∷ 64 ∷ 66 ∷ 68 ∷ 75 ∷ 40 ∷ 35 ∷ []

-- what stands in no type with arguments before its `::`, but within brackets: the same, `,` and `>`
abbrev pub reference_stops : List ℕ
reference_stops = 62 ∷ 64 ∷ 66 ∷ 67 ∷ 73 ∷ 63 ∷ 40 ∷ 35 ∷ 68 ∷ 74 ∷ []

-- all of these, the other brackets, `<` and `::`
abbrev pub marks : List ℕ
marks = 61 ∷ 62 ∷ 63 ∷ 64 ∷ 65 ∷ 66 ∷ 67 ∷ 68 ∷ 72 ∷ 73 ∷ 74 ∷ 75 ∷ 40 ∷ 35 ∷ []

-- what is open behind a symbol within type arguments
abbrev pub within_arguments : List ℕ → Symbol → Option (List ℕ)
within_arguments ks t =
    if t.sort == 75 then Some (74 ∷ 74 ∷ ks) else if t.sort == 74 then Some ks else if has stops t.sort then None
    else if has openers t.sort then Some (suc t.sort ∷ 74 ∷ ks) else Some (74 ∷ ks)

-- what is open behind a symbol within a constant form, which a `;` ends
abbrev pub within_constant : List ℕ → Symbol → Option (List ℕ)
within_constant ks t =
    if has (67 ∷ []) t.sort then Some ks else if has constant_stops t.sort then None else if has openers t.sort then Some (suc t.sort ∷ 200 ∷ ks) else Some (200 ∷ ks)

-- what is open behind a symbol within a type with arguments, which a `::` ends
abbrev pub within_reference : List ℕ → Symbol → Option (List ℕ)
within_reference ks t =
    if has (75 ∷ []) t.sort then Some (74 ∷ 201 ∷ ks) else if has (72 ∷ []) t.sort then Some ks else if has reference_stops t.sort then None
    else if has openers t.sort then Some (suc t.sort ∷ 201 ∷ ks) else Some (201 ∷ ks)

-- What is open behind a symbol, where this is what closes the last bracket; 74 is that of type arguments, 200 that of a constant form, 201 that
-- of a type before its `::`.
abbrev pub open_after : ℕ → List ℕ → Symbol → Option (List ℕ)
open_after k ks t = if k == 74 then within_arguments ks t else if k == 200 then within_constant ks t else if k == 201 then within_reference ks t else after k ks t

-- through these symbols these brackets become those; behind the last one that is closed nothing comes
abbrev pub Leads : List Symbol → List ℕ → List ℕ → Type 0
Leads [] ks ms = ks ≡ ms
Leads (t ∷ ts) [] ms = ⊥
Leads (t ∷ ts) (k ∷ ks) ms = (next : List ℕ) × (open_after k ks t ≡ Some next) × Leads ts next ms

pub same_next : (a b : List ℕ) (o : Option (List ℕ)) → o ≡ Some a → o ≡ Some b → a ≡ b
same_next a b o p q = cc

pub leads-same : (us : List Symbol) (ks ms ns : List ℕ) → Leads us ks ms → Leads us ks ns → ms ≡ ns
leads-same [] ks ms ns p q = sym p ∙ q
leads-same (t ∷ us) [] ms ns p q = absurd p
leads-same (t ∷ us) (k ∷ ks) ms ns p q =
    leads-same us p.0 ms ns p.2 (subst (λ (l : List ℕ). Leads us l ns) (same_next q.0 p.0 (open_after k ks t) q.1 p.1) q.2)

pub leads-append : (us vs : List Symbol) (ks ms ns : List ℕ) → Leads us ks ms → Leads vs ms ns → Leads (us ++ vs) ks ns
leads-append [] vs ks ms ns p q = subst (λ (l : List ℕ). Leads vs l ns) (sym p) q
leads-append (t ∷ us) vs [] ms ns p q = absurd p
leads-append (t ∷ us) vs (k ∷ ks) ms ns p q = (p.0, p.1, leads-append us vs p.0 ms ns p.2 q)

pub leads-split : (us vs : List Symbol) (ks ns : List ℕ) → Leads (us ++ vs) ks ns → (ms : List ℕ) × Leads us ks ms × Leads vs ms ns
leads-split [] vs ks ns p = (ks, refl, p)
leads-split (t ∷ us) vs [] ns p = absurd p
leads-split (t ∷ us) vs (k ∷ ks) ns p = let q = leads-split us vs p.0 ns p.2 in (q.0, (p.0, p.1, q.1), q.2)

-- where nothing is open any more, nothing follows
pub leads-end : (us vs : List Symbol) (ks ns : List ℕ) → Leads us ks [] → Leads (us ++ vs) ks ns → vs ≡ []
leads-end us vs ks ns p q =
    let r = leads-split us vs ks ns q in
    nothing vs (subst (λ (l : List ℕ). Leads vs l ns) (leads-same us ks r.0 [] r.1 p) r.2)
  where
    nothing : (vs : List Symbol) → Leads vs [] ns → vs ≡ []
    nothing [] h = refl
    nothing (t ∷ ts) h = absurd h

-- ---- one symbol

eqb_self : (k : ℕ) → eqb k k ≡ true
eqb_self k = grind arith

pub outside : (ks ls : List ℕ) (n : ℕ) → within ks ls ≡ true → has ls n ≡ false → has ks n ≡ false
outside ks ls n e h = go (has ks n) refl
  where
    go : (c : Bool) → has ks n ≡ c → c ≡ false
    go true p = not_both (has ls n) (within-has ks ls n e p) h
    go false p = refl

pub apart : (ks : List ℕ) (n m : ℕ) → has ks n ≡ false → has ks m ≡ true → eqb n m ≡ false
apart ks n m p q = go (eqb n m) refl
  where
    go : (c : Bool) → eqb n m ≡ c → c ≡ false
    go true e = not_both (has ks m) q (ap (has ks) (sym (eqb-true n m e)) ∙ p)
    go false e = refl

-- a lid is none of type arguments
pub lid-plain : (k : ℕ) → has lids k ≡ true → eqb k 74 ≡ false
lid-plain k e = disjoint-has lids (74 ∷ []) k refl e

pub lid-after : (k : ℕ) (ks : List ℕ) (t : Symbol) → has lids k ≡ true → open_after k ks t ≡ after k ks t
lid-after k ks t e = rw (lid-plain k e, disjoint-has lids (200 ∷ []) k refl e, disjoint-has lids (201 ∷ []) k refl e) refl

-- a bracket that opens
pub opener-after : (k : ℕ) (ks : List ℕ) (t : Symbol) → has lids k ≡ true → has openers t.sort ≡ true → open_after k ks t ≡ Some (suc t.sort ∷ k ∷ ks)
opener-after k ks t e o =
    let a : eqb t.sort k ≡ false = apart lids t.sort k (disjoint-has openers lids t.sort refl o) e in
    let b : has closers t.sort ≡ false = disjoint-has openers closers t.sort refl o in
    lid-after k ks t e ∙ rw (a, b, o) refl

-- a symbol that is no bracket
pub plain-after : (k : ℕ) (ks : List ℕ) (t : Symbol) → has lids k ≡ true → has lids t.sort ≡ false → has openers t.sort ≡ false → open_after k ks t ≡ Some (k ∷ ks)
plain-after k ks t e n o =
    let a : eqb t.sort k ≡ false = apart lids t.sort k n e in
    let b : has closers t.sort ≡ false = outside closers lids t.sort refl n in
    lid-after k ks t e ∙ rw (a, b, o) refl

pub lid-closed : (ks : List ℕ) (t : Symbol) → has lids t.sort ≡ true → open_after t.sort ks t ≡ Some ks
lid-closed ks t e = lid-after t.sort ks t e ∙ rw (eqb_self t.sort) refl

-- ---- what is passed over

pub after-more : (k : ℕ) (cs ks : List ℕ) (t : Symbol) (next : List ℕ) → after k cs t ≡ Some next → after k (cs ++ ks) t ≡ Some (next ++ ks)
after-more k cs ks t next e = go (eqb t.sort k) (has closers t.sort) (has openers t.sort) e
  where
    go : (a b c : Bool) → cond a (Some cs) (cond b None (cond c (Some (suc t.sort ∷ k ∷ cs)) (Some (k ∷ cs)))) ≡ Some next
        → cond a (Some (cs ++ ks)) (cond b None (cond c (Some (suc t.sort ∷ k ∷ cs ++ ks)) (Some (k ∷ cs ++ ks)))) ≡ Some (next ++ ks)
    go true b c e = let z : cs ≡ next = cc in ap (λ (l : List ℕ). Some (l ++ ks)) z
    go false true c e = absurd cc
    go false false true e = let z : suc t.sort ∷ k ∷ cs ≡ next = cc in ap (λ (l : List ℕ). Some (l ++ ks)) z
    go false false false e = let z : k ∷ cs ≡ next = cc in ap (λ (l : List ℕ). Some (l ++ ks)) z

-- each of these brackets is closed by a lid
abbrev pub Lids : List ℕ → Type 0
Lids [] = Unit {0}
Lids (c ∷ cs) = (has lids c ≡ true) × Lids cs

pub lid-behind : (n : ℕ) → has openers n ≡ true → has lids (suc n) ≡ true
lid-behind n o = grind arith

pub after-lids : (k : ℕ) (cs : List ℕ) (t : Symbol) (next : List ℕ) → has lids k ≡ true → Lids cs → after k cs t ≡ Some next → Lids next
after-lids k cs t next l ls e = go (eqb t.sort k) (has closers t.sort) (has openers t.sort) refl e
  where
    go : (a b c : Bool) → has openers t.sort ≡ c → cond a (Some cs) (cond b None (cond c (Some (suc t.sort ∷ k ∷ cs)) (Some (k ∷ cs)))) ≡ Some next → Lids next
    go true b c o e = let z : cs ≡ next = cc in subst Lids z ls
    go false true c o e = absurd cc
    go false false true o e = let z : suc t.sort ∷ k ∷ cs ≡ next = cc in subst Lids z (lid-behind t.sort o, (l, ls))
    go false false false o e = let z : k ∷ cs ≡ next = cc in subst Lids z (l, ls)

pub pass-done : (cs ks : List ℕ) (us : List Symbol) → Lids cs → pass cs us ≡ done tt [] → Leads us (cs ++ ks) ks
unfolding pass
pass-done [] ks [] l e = refl
pass-done [] ks (t ∷ us) l e = absurd cc
pass-done (c ∷ cs) ks [] l e = absurd cc
pass-done (c ∷ cs) ks (t ∷ us) l e = go (λ next lids e. pass-done next ks us lids e) (after c cs t) refl e
  where
    go : ((next : List ℕ) → Lids next → pass next us ≡ done tt [] → Leads us (next ++ ks) ks) → (o : Option (List ℕ)) → after c cs t ≡ o → option_map_or (λ next. pass next us) o (fault (t ∷ us)) ≡ done tt [] → Leads (t ∷ us) (c ∷ cs ++ ks) ks
    go later None p e = absurd cc
    go later (Some next) p e =
        (next ++ ks, lid-after c (cs ++ ks) t l.0 ∙ after-more c cs ks t next p, later next (after-lids c cs t next l.0 l.1 p) e)

pub pass-open : (cs ks : List ℕ) (us : List Symbol) → Lids cs → pass cs us ≡ fault [] → (ms : List ℕ) × Leads us (cs ++ ks) (ms ++ ks)
unfolding pass
pass-open [] ks us l e = absurd cc
pass-open (c ∷ cs) ks [] l e = (c ∷ cs, refl)
pass-open (c ∷ cs) ks (t ∷ us) l e = go (λ next lids e. pass-open next ks us lids e) (after c cs t) refl e
  where
    go : ((next : List ℕ) → Lids next → pass next us ≡ fault [] → (ms : List ℕ) × Leads us (next ++ ks) (ms ++ ks)) → (o : Option (List ℕ)) → after c cs t ≡ o → option_map_or (λ next. pass next us) o (fault (t ∷ us)) ≡ fault []
        → (ms : List ℕ) × Leads (t ∷ us) (c ∷ cs ++ ks) (ms ++ ks)
    go later None p e = absurd cc
    go later (Some next) p e =
        let r = later next (after-lids c cs t next l.0 l.1 p) e in
        (r.0, (next ++ ks, lid-after c (cs ++ ks) t l.0 ∙ after-more c cs ks t next p, r.1))
