-- What a scan of symbols does to the counts: one list behind another, that the most never falls, and symbols that keep the braces around and add this many.
use Rattle.std.proofs.Common.{◌≡◌, ℕ, suc, ◌+◌, ◌≤◌, Bool, true, false, cond, eqb, ◌||◌, List, [], ◌∷◌, ◌++◌, ◌⊎◌, inl, inr, refl, sym, ap, subst, ◌∙◌, arith}
use Rattle.std.proofs.Math.Nat.{le-max_left, le-max_right}
use Rattle.std.proofs.lemmas.Bool.{eqb-true}
use Rattle.decl_grammar.specs.declared.symbol.Symbol.{Symbol}
use Rattle.decl_grammar.specs.Reading.{has}
use Rattle.decl_limits.specs.Separators.{separators, Scan, unscanned, one_more, entered, left_to, scan_next, scanned}
use Rattle.decl_limits.proofs.Separated.{none-there, first-there}

pub none-scanned : (s : Scan) → scanned s [] ≡ s
unfolding scanned
none-scanned s = refl

pub first-scanned : (s : Scan) (t : Symbol) (ts : List Symbol) → scanned s (t ∷ ts) ≡ scanned (scan_next s t) ts
unfolding scanned
first-scanned s t ts = refl

pub both-scanned : (us vs : List Symbol) (s : Scan) → scanned s (us ++ vs) ≡ scanned (scanned s us) vs
unfolding scanned
both-scanned [] vs s = refl
both-scanned (t ∷ us) vs s = both-scanned us vs (scan_next s t)

pub both-around : (us vs : List Symbol) (s : Scan) → (scanned s (us ++ vs)).around ≡ (scanned (scanned s us) vs).around
both-around us vs s = ap (λ (x : Scan). x.around) (both-scanned us vs s)

pub both-count : (us vs : List Symbol) (s : Scan) → (scanned s (us ++ vs)).count ≡ (scanned (scanned s us) vs).count
both-count us vs s = ap (λ (x : Scan). x.count) (both-scanned us vs s)

pub both-most : (us vs : List Symbol) (s : Scan) → (scanned s (us ++ vs)).most ≡ (scanned (scanned s us) vs).most
both-most us vs s = ap (λ (x : Scan). x.most) (both-scanned us vs s)

pub whole-count : {ts : List Symbol} (us vs : List Symbol) → ts ≡ us ++ vs → (s : Scan) → (scanned s ts).count ≡ (scanned (scanned s us) vs).count
whole-count us vs e s = ap (λ (ss : List Symbol). (scanned s ss).count) e ∙ both-count us vs s

pub whole-most : {ts : List Symbol} (us vs : List Symbol) → ts ≡ us ++ vs → (s : Scan) → (scanned s ts).most ≡ (scanned (scanned s us) vs).most
whole-most us vs e s = ap (λ (ss : List Symbol). (scanned s ss).most) e ∙ both-most us vs s

-- by whether a symbol is a `{`, a `}`, or a `;` or a `,`
abbrev pub picked : Bool → Bool → Bool → Scan → Scan
picked a b c s = cond a (entered s) (cond b (left_to s.around s.count s.most) (cond c (one_more s) s))

-- ---- the most never falls, and no count is above it

left-most : (ks : List ℕ) (n m : ℕ) → m ≤ (left_to ks n m).most
left-most [] n m = le-max_left m (suc n)
left-most (k ∷ ks) n m = le-max_left m (suc k)

left-bounded : (ks : List ℕ) (n m : ℕ) → (left_to ks n m).count ≤ (left_to ks n m).most
left-bounded [] n m = le-max_right m (suc n)
left-bounded (k ∷ ks) n m = le-max_right m (suc k)

picked-most : (a b c : Bool) (s : Scan) → s.most ≤ (picked a b c s).most
picked-most true b c s = omega arith
picked-most false true c s = left-most s.around s.count s.most
picked-most false false true s = le-max_left s.most (suc s.count)
picked-most false false false s = omega arith

picked-bounded : (a b c : Bool) (s : Scan) → s.count ≤ s.most → (picked a b c s).count ≤ (picked a b c s).most
picked-bounded true b c s le = omega arith
picked-bounded false true c s le = left-bounded s.around s.count s.most
picked-bounded false false true s le = le-max_right s.most (suc s.count)
picked-bounded false false false s le = le

pub more-most : (ts : List Symbol) (s : Scan) → s.most ≤ (scanned s ts).most
unfolding scanned
more-most [] s = omega arith
more-most (t ∷ ts) s = omega (arith, picked-most (has (63 ∷ []) t.sort) (has (64 ∷ []) t.sort) (has (67 ∷ 68 ∷ []) t.sort) s, more-most ts (scan_next s t))

pub bounded : (ts : List Symbol) (s : Scan) → s.count ≤ s.most → (scanned s ts).count ≤ (scanned s ts).most
unfolding scanned
bounded [] s le = le
bounded (t ∷ ts) s le = bounded ts (scan_next s t) (picked-bounded (has (63 ∷ []) t.sort) (has (64 ∷ []) t.sort) (has (67 ∷ 68 ∷ []) t.sort) s le)

-- ---- all counts together are no more than the separators

abbrev all_around : List ℕ → ℕ
all_around [] = 0
all_around (n ∷ ns) = n + all_around ns

abbrev all_counted : Scan → ℕ
all_counted s = s.count + all_around s.around

left-counted : (ks : List ℕ) (n m : ℕ) → all_counted (left_to ks n m) ≤ suc (n + all_around ks)
left-counted [] n m = omega arith
left-counted (k ∷ ks) n m = omega arith

picked-counted : (a b c : Bool) (s : Scan) → all_counted (picked a b c s) ≤ all_counted s + cond (b || c) 1 0
picked-counted true b c s = omega arith
picked-counted false true c s = omega (arith, left-counted s.around s.count s.most)
picked-counted false false true s = omega arith
picked-counted false false false s = omega arith

scanned-counted : (ts : List Symbol) (s : Scan) → all_counted (scanned s ts) ≤ all_counted s + separators ts
unfolding scanned
scanned-counted [] s = omega (arith, none-there)
scanned-counted (t ∷ ts) s =
    omega (arith, picked-counted (has (63 ∷ []) t.sort) (has (64 ∷ []) t.sort) (has (67 ∷ 68 ∷ []) t.sort) s, scanned-counted ts (scan_next s t), first-there t ts)

-- ---- symbols that keep the braces around

-- Behind these symbols the same braces are open as before them, and at least this many more are counted within the innermost.
pub record Adds (ts : List Symbol) (k : ℕ) : Type 0 where
  pub keeps : (s : Scan) → (scanned s ts).around ≡ s.around
  pub adds : (s : Scan) → s.count + k ≤ (scanned s ts).count

pub adds-nothing : Adds [] 0
adds-nothing = record {
  keeps = λ s. ap (λ (x : Scan). x.around) (none-scanned s);
  adds = λ s. omega (arith, ap (λ (x : Scan). x.count) (none-scanned s));
}

pub adds-less : {ts : List Symbol} {k n : ℕ} → Adds ts k → n ≤ k → Adds ts n
adds-less p le = record { keeps = p.keeps; adds = λ s. omega (arith, p.adds s, le) }

pub adds-append : (us vs : List Symbol) (a b : ℕ) → Adds us a → Adds vs b → Adds (us ++ vs) (a + b)
adds-append us vs a b p q = record {
  keeps = λ s. both-around us vs s ∙ (q.keeps (scanned s us) ∙ p.keeps s);
  adds = λ s. omega (arith, p.adds s, q.adds (scanned s us), both-count us vs s);
}

pub adds-both : {ts us vs : List Symbol} {a b : ℕ} → ts ≡ us ++ vs → Adds us a → Adds vs b → Adds ts (a + b)
adds-both {us = us} {vs = vs} {a = a} {b = b} e p q = subst (λ (ss : List Symbol). Adds ss (a + b)) (sym e) (adds-append us vs a b p q)

-- at least this many of them separate
pub adds-few : {ts : List Symbol} {k : ℕ} → Adds ts k → k ≤ separators ts
adds-few {ts = ts} p = omega (arith, p.adds unscanned, scanned-counted ts unscanned)

-- ---- one symbol

pub one-scanned : (s : Scan) (t : Symbol) → scanned s (t ∷ []) ≡ scan_next s t
unfolding scanned
one-scanned s t = refl

pub last-scanned : (s : Scan) (ts : List Symbol) (t : Symbol) → scanned s (ts ++ t ∷ []) ≡ scan_next (scanned s ts) t
last-scanned s ts t = both-scanned ts (t ∷ []) s ∙ one-scanned (scanned s ts) t

kept : (c : Bool) (s : Scan) → (picked false false c s).around ≡ s.around
kept true s = refl
kept false s = refl

kept-count : (c : Bool) (s : Scan) → s.count + cond c 1 0 ≤ (picked false false c s).count
kept-count true s = omega arith
kept-count false s = omega arith

-- one that is no brace
pub symbol-adds : (t : Symbol) → has (63 ∷ []) t.sort ≡ false → has (64 ∷ []) t.sort ≡ false → Adds (t ∷ []) (cond (has (67 ∷ 68 ∷ []) t.sort) 1 0)
symbol-adds t opens closes = record {
  keeps = λ s. ap (λ (x : Scan). x.around) (is s) ∙ kept (has (67 ∷ 68 ∷ []) t.sort) s;
  adds = λ s. omega (arith, ap (λ (x : Scan). x.count) (is s), kept-count (has (67 ∷ 68 ∷ []) t.sort) s);
}
  where
    is : (s : Scan) → scanned s (t ∷ []) ≡ picked false false (has (67 ∷ 68 ∷ []) t.sort) s
    is s =
        one-scanned s t
        ∙ (ap (λ (a : Bool). picked a (has (64 ∷ []) t.sort) (has (67 ∷ 68 ∷ []) t.sort) s) opens
        ∙ ap (λ (b : Bool). picked false b (has (67 ∷ 68 ∷ []) t.sort) s) closes)

-- a `;` or a `,` is no brace
mark : (n : ℕ) → (n ≡ 67) ⊎ (n ≡ 68) → (has (63 ∷ []) n ≡ false) × (has (64 ∷ []) n ≡ false)
mark n (inl e) = subst (λ (k : ℕ). (has (63 ∷ []) k ≡ false) × (has (64 ∷ []) k ≡ false)) (sym e) (refl, refl)
mark n (inr e) = subst (λ (k : ℕ). (has (63 ∷ []) k ≡ false) × (has (64 ∷ []) k ≡ false)) (sym e) (refl, refl)

which : (n : ℕ) → has (67 ∷ 68 ∷ []) n ≡ true → (n ≡ 67) ⊎ (n ≡ 68)
which n h = go (eqb n 67) refl h
  where
    go : (c : Bool) → eqb n 67 ≡ c → (c || eqb n 68) ≡ true → (n ≡ 67) ⊎ (n ≡ 68)
    go true e h = inl (eqb-true n 67 e)
    go false e h = inr (eqb-true n 68 h)

pub mark-adds : (t : Symbol) → has (67 ∷ 68 ∷ []) t.sort ≡ true → Adds (t ∷ []) 1
mark-adds t h =
    let none = mark t.sort (which t.sort h) in
    subst (λ (c : Bool). Adds (t ∷ []) (cond c 1 0)) h (symbol-adds t none.0 none.1)
