-- What is passed over between brackets closes the braces that it opens: the brackets that are still to be closed say which braces are.
use Rattle.std.proofs.Common.{◌≡◌, ℕ, suc, ◌≤◌, Bool, true, false, cond, eqb, ◌||◌, List, [], ◌∷◌, Some, None, refl, sym, ap, subst, ◌∙◌, arith}
use Rattle.std.specs.Option.{option_map_or}
use Rattle.std.proofs.lemmas.Bool.{eqb-true}
use Rattle.decl_grammar.specs.declared.symbol.Symbol.{Symbol}
use Rattle.decl_grammar.specs.Reading.{has, done, fault, ◌>>=◌, one_at, openers, closers, pass, skip}
use Rattle.decl_grammar.proofs.OneToken.{within, within-has}
use Rattle.decl_limits.specs.Separators.{Scan, left_to, scan_next, scanned}
use Rattle.decl_limits.proofs.Scans.{picked, Adds}

-- Once these brackets are closed, the braces around are those, and at least this many are counted within the innermost: each `}` among them closes the innermost braces.
abbrev Ready : List ℕ → ℕ → List ℕ → List ℕ → ℕ → Type 0
Ready [] n ns around k = (ns ≡ around) × (k ≤ n)
Ready (b ∷ bs) n ns around k = cond (eqb b 64) ((m : ℕ) × (ms : List ℕ) × (ns ≡ m ∷ ms) × Ready bs (suc m) ms around k) (Ready bs n ns around k)

abbrev AllClose : List ℕ → Type 0
AllClose [] = Unit {0}
AllClose (b ∷ bs) = (has closers b ≡ true) × AllClose bs

ready-more : (bs : List ℕ) (n m : ℕ) (ns around : List ℕ) (k : ℕ) → n ≤ m → Ready bs n ns around k → Ready bs m ns around k
ready-more [] n m ns around k le r = (r.0, omega (arith, le, r.1))
ready-more (b ∷ bs) n m ns around k le r = go (eqb b 64) (ready-more bs n m ns around k le) r
  where
    go : (c : Bool) → (Ready bs n ns around k → Ready bs m ns around k)
        → cond c ((j : ℕ) × (js : List ℕ) × (ns ≡ j ∷ js) × Ready bs (suc j) js around k) (Ready bs n ns around k)
        → cond c ((j : ℕ) × (js : List ℕ) × (ns ≡ j ∷ js) × Ready bs (suc j) js around k) (Ready bs m ns around k)
    go true below r = r
    go false below r = below r

abbrev Ends : List Symbol → Scan → List ℕ → ℕ → Type 0
Ends ts s around k = ((scanned s ts).around ≡ around) × (k ≤ (scanned s ts).count)

-- ---- one symbol

-- by the sort of a symbol: a `{`, a `}`, or another one, which keeps the braces and counts no less
next-open : (s : Scan) (t : Symbol) → t.sort ≡ 63 → scan_next s t ≡ picked true false false s
next-open s t e = ap (λ (n : ℕ). picked (has (63 ∷ []) n) (has (64 ∷ []) n) (has (67 ∷ 68 ∷ []) n) s) e

next-close : (s : Scan) (t : Symbol) → t.sort ≡ 64 → scan_next s t ≡ left_to s.around s.count s.most
next-close s t e = ap (λ (n : ℕ). picked (has (63 ∷ []) n) (has (64 ∷ []) n) (has (67 ∷ 68 ∷ []) n) s) e

other-around : (c : Bool) (s : Scan) → (picked false false c s).around ≡ s.around
other-around true s = refl
other-around false s = refl

other-count : (c : Bool) (s : Scan) → s.count ≤ (picked false false c s).count
other-count true s = omega arith
other-count false s = omega arith

next-other : (s : Scan) (t : Symbol) → eqb t.sort 63 ≡ false → eqb t.sort 64 ≡ false → scan_next s t ≡ picked false false (has (67 ∷ 68 ∷ []) t.sort) s
next-other s t d e =
    ap (λ (a : Bool). picked a (eqb t.sort 64) (has (67 ∷ 68 ∷ []) t.sort) s) d
    ∙ ap (λ (b : Bool). picked false b (has (67 ∷ 68 ∷ []) t.sort) s) e

-- behind another symbol than a brace
ready-other : (bs : List ℕ) (s : Scan) (t : Symbol) (around : List ℕ) (k : ℕ) → eqb t.sort 63 ≡ false → eqb t.sort 64 ≡ false
    → Ready bs s.count s.around around k → Ready bs (scan_next s t).count (scan_next s t).around around k
ready-other bs s t around k d e r =
    let c = has (67 ∷ 68 ∷ []) t.sort in
    let more = ready-more bs s.count (picked false false c s).count s.around around k (other-count c s) r in
    let there = subst (λ (ns : List ℕ). Ready bs (picked false false c s).count ns around k) (sym (other-around c s)) more in
    subst (λ (x : Scan). Ready bs x.count x.around around k) (sym (next-other s t d e)) there

no-both : true ≡ false → ⊥
no-both same = absurd cc

not-open : (n : ℕ) → has closers n ≡ true → eqb n 63 ≡ false
not-open n h = go (eqb n 62) (eqb n 64) (eqb n 66) refl refl refl h
  where
    at : (k : ℕ) → eqb k 63 ≡ false → n ≡ k → eqb n 63 ≡ false
    at k f e = ap (λ (m : ℕ). eqb m 63) e ∙ f

    go : (a b c : Bool) → eqb n 62 ≡ a → eqb n 64 ≡ b → eqb n 66 ≡ c → (a || (b || c)) ≡ true → eqb n 63 ≡ false
    go true b c ea eb ec h = at 62 refl (eqb-true n 62 ea)
    go false true c ea eb ec h = at 64 refl (eqb-true n 64 eb)
    go false false true ea eb ec h = at 66 refl (eqb-true n 66 ec)
    go false false false ea eb ec h = absurd (no-both (sym h))

-- the symbol that closes the innermost bracket
ready-closed : (b : ℕ) (bs : List ℕ) (s : Scan) (t : Symbol) (around : List ℕ) (k : ℕ) → has closers b ≡ true → t.sort ≡ b
    → Ready (b ∷ bs) s.count s.around around k → Ready bs (scan_next s t).count (scan_next s t).around around k
ready-closed b bs s t around k closes is r = go (eqb b 64) refl r
  where
    go : (c : Bool) → eqb b 64 ≡ c
        → cond c ((m : ℕ) × (ms : List ℕ) × (s.around ≡ m ∷ ms) × Ready bs (suc m) ms around k) (Ready bs s.count s.around around k)
        → Ready bs (scan_next s t).count (scan_next s t).around around k
    go true e r =
        let next : scan_next s t ≡ left_to (r.0 ∷ r.1) s.count s.most = next-close s t (is ∙ eqb-true b 64 e) ∙ ap (λ (ns : List ℕ). left_to ns s.count s.most) r.2 in
        subst (λ (x : Scan). Ready bs x.count x.around around k) (sym next) r.3
    go false e r =
        ready-other bs s t around k (ap (λ (n : ℕ). eqb n 63) is ∙ not-open b closes) (ap (λ (n : ℕ). eqb n 64) is ∙ e) r

-- a `{`, which its `}` is to close then
abbrev Due : ℕ → List ℕ → Scan → List ℕ → ℕ → Type 0
Due n bs x around k = Ready (suc n ∷ bs) x.count x.around around k

ready-brace : (bs : List ℕ) (s : Scan) (t : Symbol) (around : List ℕ) (k : ℕ) → t.sort ≡ 63 → Ready bs (suc s.count) s.around around k → Due t.sort bs (scan_next s t) around k
ready-brace bs s t around k e r =
    let there : Due 63 bs (picked true false false s) around k = (s.count, s.around, refl, r) in
    subst (λ (n : ℕ). Due n bs (scan_next s t) around k) (sym e) (subst (λ (x : Scan). Due 63 bs x around k) (sym (next-open s t e)) there)

-- another bracket
ready-plain : (bs : List ℕ) (s : Scan) (t : Symbol) (around : List ℕ) (k : ℕ) (n : ℕ) → t.sort ≡ n → eqb n 63 ≡ false → eqb n 64 ≡ false → eqb (suc n) 64 ≡ false
    → Ready bs s.count s.around around k → Due t.sort bs (scan_next s t) around k
ready-plain bs s t around k n e not-brace not-closed not-due r =
    let there = ready-other bs s t around k (ap (λ (m : ℕ). eqb m 63) e ∙ not-brace) (ap (λ (m : ℕ). eqb m 64) e ∙ not-closed) r in
    subst (λ (c : Bool). cond c ((m : ℕ) × (ms : List ℕ) × ((scan_next s t).around ≡ m ∷ ms) × Ready bs (suc m) ms around k) (Ready bs (scan_next s t).count (scan_next s t).around around k))
    (sym (ap (λ (m : ℕ). eqb (suc m) 64) e ∙ not-due)) there

-- a symbol that opens a bracket, which is to be closed then
ready-opened : (bs : List ℕ) (s : Scan) (t : Symbol) (around : List ℕ) (k : ℕ) → has openers t.sort ≡ true
    → Ready bs s.count s.around around k → Due t.sort bs (scan_next s t) around k
ready-opened bs s t around k opens r = go (eqb t.sort 61) (eqb t.sort 63) (eqb t.sort 65) refl refl refl opens
  where
    go : (a b c : Bool) → eqb t.sort 61 ≡ a → eqb t.sort 63 ≡ b → eqb t.sort 65 ≡ c → (a || (b || c)) ≡ true → Due t.sort bs (scan_next s t) around k
    go true b c ea eb ec h = ready-plain bs s t around k 61 (eqb-true t.sort 61 ea) refl refl refl r
    go false true c ea eb ec h = ready-brace bs s t around k (eqb-true t.sort 63 eb) (ready-more bs s.count (suc s.count) s.around around k (omega arith) r)
    go false false true ea eb ec h = ready-plain bs s t around k 65 (eqb-true t.sort 65 ec) refl refl refl r
    go false false false ea eb ec h = absurd (no-both (sym h))

suc-closes : (n : ℕ) → has openers n ≡ true → has closers (suc n) ≡ true
suc-closes n h = go (eqb n 61) (eqb n 63) (eqb n 65) refl refl refl h
  where
    at : (k : ℕ) → has closers (suc k) ≡ true → n ≡ k → has closers (suc n) ≡ true
    at k f e = ap (λ (m : ℕ). has closers (suc m)) e ∙ f

    go : (a b c : Bool) → eqb n 61 ≡ a → eqb n 63 ≡ b → eqb n 65 ≡ c → (a || (b || c)) ≡ true → has closers (suc n) ≡ true
    go true b c ea eb ec h = at 61 refl (eqb-true n 61 ea)
    go false true c ea eb ec h = at 63 refl (eqb-true n 63 eb)
    go false false true ea eb ec h = at 65 refl (eqb-true n 65 ec)
    go false false false ea eb ec h = absurd (no-both (sym h))

-- ---- all that is passed over

abbrev Passed : List Symbol → Type 0
Passed ts = (bs : List ℕ) → AllClose bs → pass bs ts ≡ done tt [] → (s : Scan) (around : List ℕ) (k : ℕ) → Ready bs s.count s.around around k → Ends ts s around k

ends-next : (t : Symbol) (ts : List Symbol) (s : Scan) (around : List ℕ) (k : ℕ) → Ends ts (scan_next s t) around k → Ends (t ∷ ts) s around k
unfolding scanned
ends-next t ts s around k e = e

second-false : (a b c : Bool) → (a || (b || c)) ≡ false → b ≡ false
second-false true b c h = absurd (no-both h)
second-false false true c h = absurd (no-both h)
second-false false false c h = refl

no-opener : (n : ℕ) → has openers n ≡ false → eqb n 63 ≡ false
no-opener n h = second-false (eqb n 61) (eqb n 63) (eqb n 65) h

no-closer : (n : ℕ) → has closers n ≡ false → eqb n 64 ≡ false
no-closer n h = second-false (eqb n 62) (eqb n 64) (eqb n 66) h

pass-step : (t : Symbol) (ts : List Symbol) → Passed ts → (b : ℕ) (bs : List ℕ) → AllClose (b ∷ bs) → pass (b ∷ bs) (t ∷ ts) ≡ done tt []
    → (s : Scan) (around : List ℕ) (k : ℕ) → Ready (b ∷ bs) s.count s.around around k → Ends (t ∷ ts) s around k
unfolding pass
pass-step t ts below b bs close e s around k r = go (eqb t.sort b) (has closers t.sort) (has openers t.sort) refl refl refl e
  where
    go : (x y z : Bool) → eqb t.sort b ≡ x → has closers t.sort ≡ y → has openers t.sort ≡ z
        → option_map_or (λ next. pass next ts) (cond x (Some bs) (cond y None (cond z (Some (suc t.sort ∷ b ∷ bs)) (Some (b ∷ bs))))) (fault (t ∷ ts)) ≡ done tt []
        → Ends (t ∷ ts) s around k
    go true y z ex ey ez e =
        ends-next t ts s around k (below bs close.1 e (scan_next s t) around k (ready-closed b bs s t around k close.0 (eqb-true t.sort b ex) r))
    go false true z ex ey ez e = absurd cc
    go false false true ex ey ez e =
        ends-next t ts s around k (below (suc t.sort ∷ b ∷ bs) (suc-closes t.sort ez, close) e (scan_next s t) around k (ready-opened (b ∷ bs) s t around k ez r))
    go false false false ex ey ez e =
        ends-next t ts s around k (below (b ∷ bs) close e (scan_next s t) around k (ready-other (b ∷ bs) s t around k (no-opener t.sort ez) (no-closer t.sort ey) r))

passed : (ts : List Symbol) → Passed ts
unfolding pass scanned
passed [] [] close e s around k r = r
passed (t ∷ ts) [] close e s around k r = absurd cc
passed [] (b ∷ bs) close e s around k r = absurd cc
passed (t ∷ ts) (b ∷ bs) close e s around k r = pass-step t ts (passed ts) b bs close e s around k r

-- a bracket of one of these sorts, and all up to where it is closed
skipped : (opens : List ℕ) (t : Symbol) (ts : List Symbol) → within opens openers ≡ true → skip opens (t ∷ ts) ≡ done tt [] → (has opens t.sort ≡ true) × (pass (suc t.sort ∷ []) ts ≡ done tt [])
unfolding one_at
skipped opens t ts w e = go (has opens t.sort) refl e
  where
    go : (c : Bool) → has opens t.sort ≡ c → (cond c (done t ts) (fault (t ∷ ts)) >>= λ t rest. pass (suc t.sort ∷ []) rest) ≡ done tt []
        → (has opens t.sort ≡ true) × (pass (suc t.sort ∷ []) ts ≡ done tt [])
    go true h e = (h, e)
    go false h e = absurd cc

skipped-ends : (opens : List ℕ) (t : Symbol) (ts : List Symbol) → within opens openers ≡ true → skip opens (t ∷ ts) ≡ done tt [] → (s : Scan) → Ends (t ∷ ts) s s.around s.count
skipped-ends opens t ts w e s =
    let p = skipped opens t ts w e in
    let opened = within-has opens openers t.sort w p.0 in
    ends-next t ts s s.around s.count
    (passed ts (suc t.sort ∷ []) (suc-closes t.sort opened, tt) p.1 (scan_next s t) s.around s.count (ready-opened [] s t s.around s.count opened (refl, omega arith)))

pub skip-adds : (opens : List ℕ) (us : List Symbol) → within opens openers ≡ true → skip opens us ≡ done tt [] → Adds us 0
unfolding one_at
skip-adds opens [] w e = absurd cc
skip-adds opens (t ∷ ts) w e = record { keeps = λ s. (skipped-ends opens t ts w e s).0; adds = λ s. omega (arith, (skipped-ends opens t ts w e s).1) }

braced-ends : (t : Symbol) (ts : List Symbol) → skip (63 ∷ []) (t ∷ ts) ≡ done tt [] → (s : Scan) → Ends (t ∷ ts) s s.around (suc s.count)
braced-ends t ts e s =
    let p = skipped (63 ∷ []) t ts refl e in
    let is = eqb-true t.sort 63 p.0 in
    let opened = within-has (63 ∷ []) openers t.sort refl p.0 in
    ends-next t ts s s.around (suc s.count)
    (passed ts (suc t.sort ∷ []) (suc-closes t.sort opened, tt) p.1 (scan_next s t) s.around (suc s.count) (ready-brace [] s t s.around (suc s.count) is (refl, omega arith)))

-- a `{`, and all up to its `}`
pub braces-add : (us : List Symbol) → skip (63 ∷ []) us ≡ done tt [] → Adds us 1
unfolding one_at
braces-add [] e = absurd cc
braces-add (t ∷ ts) e = record { keeps = λ s. (braced-ends t ts e s).0; adds = λ s. omega (arith, (braced-ends t ts e s).1) }
