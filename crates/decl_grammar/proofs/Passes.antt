-- Reading goes through all tokens that begin the form, unless it is too deep there; and then no more forms are open than are allowed.
use Rattle.std.proofs.Common.{◌≡◌, ℕ, zero, suc, ◌+◌, ◌*◌, ◌<◌, ◌≤◌, Bool, true, false, cond, List, [], ◌∷◌, ◌++◌, ◌⊎◌, length, Option, Some, None, refl, sym, ap, subst, ◌∙◌, append_assoc, length-append, arith, inl, inr, ⊎_elim}
use Rattle.std.proofs.lemmas.List.{nil_from_length}
use Rattle.std.specs.Prelude.{◌||◌, ◌&&◌}
use Rattle.std.specs.Option.{option_map_or}
use Rattle.decl_grammar.specs.declared.symbol.Symbol.{Symbol}
use Rattle.decl_grammar.specs.Reading.{has, starts, Outcome, done, fault, deep, left, ◌>>=◌, one_at, after, pass, skip, read_of}
use Rattle.decl_grammar.specs.Form.{Nest, Form, terminal, pair, turn, maybe, many, either, nest, over, seen, attempt, nullable, first, Each, Wholes, Begun, Readers, Is, Begins, repeat, read, opened}
use Rattle.decl_grammar.proofs.OneToken.{no, no_true, both, one_or, not_both, disjoint, disjoint-has, more, ok, rank, rank-below, guarded, any-guarded}
use Rattle.decl_grammar.proofs.Heads.{BegunHeads, nil_parts, Is-nil, Is-head, Each-head, Begins-head, nil-open, Is-begins}
use Rattle.decl_grammar.proofs.Told.{told}
use Rattle.decl_grammar.proofs.Rivals.{Fair}
use Rattle.decl_grammar.proofs.Attempts.{Passes, left-attempt, passes-first-reading, passes-other-reading}
use Rattle.decl_grammar.proofs.Complete.{Comes, Inside, complete, word-again, skip-again, starts-front, starts-not, positive}

pub bind-left : {A B : Type 0} (o : Outcome A) (k : A → List Symbol → Outcome B) → ((x : A) (rest : List Symbol) → length (left (k x rest)) ≤ length rest) → length (left (o >>= k)) ≤ length (left o)
bind-left (done x rest) k h = h x rest
bind-left (fault at) k h = omega arith
bind-left (deep at) k h = omega arith

passes-bind : (room n : ℕ) (rest : List Symbol) {A B : Type 0} (o : Outcome A) (k : A → List Symbol → Outcome B) → ((x : A) (rest : List Symbol) → length (left (k x rest)) ≤ length rest) → Passes room n rest o → Passes room n rest (o >>= k)
passes-bind room n rest o k h (inl p) = inl (omega (arith, bind-left o k h, p.0), p.1)
passes-bind room n rest o k h (inr q) = inr (q.0, rw q.1 refl, q.2)

passes-zero : (room n m : ℕ) (rest : List Symbol) {A : Type 0} (o : Outcome A) → n ≡ 0 → Passes room m rest o → Passes room n rest o
passes-zero room n m rest o z (inl p) = inl (p.0, omega arith)
passes-zero room n m rest o z (inr q) = inr q

passes-choice : (room n : ℕ) (rest : List Symbol) {A : Type 0} (c : Bool) (p q : Outcome A) → c ≡ true → Passes room n rest p → Passes room n rest (cond c p q)
passes-choice room n rest true p q e h = h
passes-choice room n rest false p q e h = absurd cc

passes-other : (room n : ℕ) (rest : List Symbol) {A : Type 0} (c : Bool) (p q : Outcome A) → c ≡ false → Passes room n rest q → Passes room n rest (cond c p q)
passes-other room n rest true p q e h = absurd cc
passes-other room n rest false p q e h = h

-- a whole part, and what is read after it
passes-after : (room n : ℕ) (vs rest : List Symbol) {A B : Type 0} (x : A) (o : Outcome A) (k : A → List Symbol → Outcome B) → Comes x (vs ++ rest) o → Passes room n rest (k x (vs ++ rest)) → Passes room n rest (o >>= k)
passes-after room n vs rest {A} {B} x o k (inl e) p = subst (λ (z : Outcome A). Passes room n rest (z >>= k)) (sym e) p
passes-after room n vs rest x o k (inr e) p = inr (e.0, rw e.1 refl, omega (arith, e.2, length-append vs rest))

-- ---- what is passed over

pass-left : (ks : List ℕ) (ts : List Symbol) → length (left (pass ks ts)) ≤ length ts
unfolding pass
pass-left [] ts = omega arith
pass-left (k ∷ ks) [] = omega arith
pass-left (k ∷ ks) (t ∷ ts) = go (after k ks t) (λ next. pass-left next ts)
  where
    go : (o : Option (List ℕ)) → ((next : List ℕ) → length (left (pass next ts)) ≤ length ts) → length (left (option_map_or (λ next. pass next ts) o (fault (t ∷ ts)))) ≤ suc (length ts)
    go None h = omega arith
    go (Some next) h = let p = h next in omega arith

pass-goes : (ks : List ℕ) (us rest : List Symbol) → pass ks us ≡ fault [] → length (left (pass ks (us ++ rest))) ≤ length rest
unfolding pass
pass-goes [] us rest e = absurd cc
pass-goes (k ∷ ks) [] rest e = pass-left (k ∷ ks) rest
pass-goes (k ∷ ks) (t ∷ us) rest e = go (after k ks t) e (λ next h. pass-goes next us rest h)
  where
    go : (o : Option (List ℕ)) → option_map_or (λ next. pass next us) o (fault (t ∷ us)) ≡ fault [] → ((next : List ℕ) → pass next us ≡ fault [] → length (left (pass next (us ++ rest))) ≤ length rest)
        → length (left (option_map_or (λ next. pass next (us ++ rest)) o (fault (t ∷ us ++ rest)))) ≤ length rest
    go None e h = absurd cc
    go (Some next) e h = h next e

word-left : (k : List ℕ) (ts : List Symbol) → length (left (one_at k ts)) ≤ length ts
unfolding one_at
word-left k [] = omega arith
word-left k (t ∷ ts) = go (has k t.sort)
  where
    go : (c : Bool) → length (left (cond c (done t ts) (fault (t ∷ ts)))) ≤ suc (length ts)
    go true = omega arith
    go false = omega arith

skip-left : (opens : List ℕ) (ts : List Symbol) → length (left (skip opens ts)) ≤ length ts
skip-left opens ts = omega (arith, bind-left (one_at opens ts) (λ t rest. pass (suc t.sort ∷ []) rest) (λ t rest. pass-left (suc t.sort ∷ []) rest), word-left opens ts)

skip-goes : (opens : List ℕ) (us rest : List Symbol) → skip opens us ≡ fault [] → length (left (skip opens (us ++ rest))) ≤ length rest
unfolding one_at
skip-goes opens [] rest e = skip-left opens rest
skip-goes opens (t ∷ us) rest e = go (has opens t.sort) e
  where
    go : (c : Bool) → (cond c (done t us) (fault (t ∷ us)) >>= λ t rest. pass (suc t.sort ∷ []) rest) ≡ fault [] → length (left (cond c (done t (us ++ rest)) (fault (t ∷ us ++ rest)) >>= λ t rest. pass (suc t.sort ∷ []) rest)) ≤ length rest
    go true e = pass-goes (suc t.sort ∷ []) us rest e
    go false e = absurd cc

-- ---- no reading makes tokens

left-choice : {A : Type 0} (c : Bool) (p q : Outcome A) (ts : List Symbol) → length (left p) ≤ length ts → length (left q) ≤ length ts → length (left (cond c p q)) ≤ length ts
left-choice true p q ts h k = h
left-choice false p q ts h k = k

row-left : {A : Type 0} (next : List Symbol → Bool) (one : List Symbol → Outcome A) → ((ts : List Symbol) → length (left (one ts)) ≤ length ts) → (n : ℕ) (ts : List Symbol) → length (left (repeat next one n ts)) ≤ length ts
row-left next one h zero ts = omega arith
row-left {A} next one h (suc n) ts =
    let later : (x : A) (rest : List Symbol) → length (left (repeat next one n rest >>= λ xs after. done (x ∷ xs) after)) ≤ length rest = λ x rest. omega (arith, bind-left (repeat next one n rest) (λ xs after. done (x ∷ xs) after) (λ xs after. omega arith), row-left next one h n rest) in
    left-choice (next ts) (one ts >>= λ x rest. repeat next one n rest >>= λ xs after. done (x ∷ xs) after) (done [] ts) ts
    (omega (arith, bind-left (one ts) (λ x rest. repeat next one n rest >>= λ xs after. done (x ∷ xs) after) later, h ts)) (omega arith)

abbrev pub Bounded : Readers → Type 0
Bounded r = (m : Nest) (ts : List Symbol) → length (left (r m ts)) ≤ length ts

pub bounded : (r : Readers) → Bounded r → {A : Type 0} (f : Form A) (ts : List Symbol) → length (left (read r f ts)) ≤ length ts
bounded r h (terminal k) ts = word-left k ts
bounded r h (pair {A} {B} f g) ts = omega (arith, bounded r h f ts, bind-left {B = A × B} (read r f ts) (λ x rest. read r g rest >>= λ y after. done (x, y) after) (λ x rest. omega (arith, bounded r h g rest, bind-left {B = A × B} (read r g rest) (λ y after. done (x, y) after) (λ y after. omega arith))))
bounded r h (turn k f) ts = omega (arith, bounded r h f ts, bind-left (read r f ts) (λ x rest. done (k x) rest) (λ x rest. omega arith))
bounded r h (seen {A} {B} k f) ts = omega (arith, bounded r h f ts, bind-left {B = B × A} (read r f ts) (λ x rest. done (k (read_of ts rest), x) rest) (λ x rest. omega arith))
bounded r h (maybe {A} f) ts = left-choice (starts (first f) ts) (read r f ts >>= λ x rest. done (Some x) rest) (done None ts) ts (omega (arith, bounded r h f ts, bind-left (read r f ts) (λ x rest. done (Some x) rest) (λ x rest. omega arith))) (omega arith)
bounded r h (many f) ts = row-left (starts (first f)) (read r f) (bounded r h f) (length ts) ts
bounded r h (either f g) ts = left-choice (starts (first f) ts) (read r f ts) (read r g ts) ts (bounded r h f ts) (bounded r h g ts)
bounded r h (nest m) ts = h m ts
bounded r h (over opens) ts = skip-left opens ts
bounded r h (attempt f g) ts = left-attempt (read r f ts) (read r g ts) (length ts) (bounded r h f ts) (bounded r h g ts)

-- ---- the law

-- the first token of what is left of a row, where it is not empty
next-clear : {A : Type 0} (P : List Symbol → A → Type 0) (B : List Symbol → Type 0) (ks ls : List ℕ) → ((t : Symbol) (us : List Symbol) (x : A) (ts : List Symbol) → ts ≡ t ∷ us → P ts x → has ks t.sort ≡ true)
    → ((t : Symbol) (us : List Symbol) (ts : List Symbol) → ts ≡ t ∷ us → B ts → has ks t.sort ≡ true) → disjoint ks ls ≡ true
    → (xs : List A) (c vs rest : List Symbol) → Each P c xs → B vs → (c ++ vs ≡ [] → ⊥) → starts ls (c ++ (vs ++ rest)) ≡ false
next-clear P B ks ls heads bheads d xs [] [] rest each b z = absurd (z refl)
next-clear P B ks ls heads bheads d xs [] (t ∷ vs) rest each b z = disjoint-has ks ls t.sort d (bheads t vs (t ∷ vs) refl b)
next-clear P B ks ls heads bheads d xs (t ∷ c) vs rest each b z = disjoint-has ks ls t.sort d (Each-head P ks heads xs t c (t ∷ c) refl each)

nil_or : {A : Type 0} (us : List A) → (us ≡ []) ⊎ (us ≡ [] → ⊥)
nil_or [] = inl refl
nil_or (u ∷ us) = inr (λ e. cc)

pub record RowLaws (room n : ℕ) (rest : List Symbol) {A : Type 0} (P : List Symbol → A → Type 0) (B : List Symbol → ℕ → Type 0) (ks ls : List ℕ) (one : List Symbol → Outcome A) : Type 0 where
  pub full : (x : A) (us : List Symbol) → us ≡ [] → P us x → ⊥
  pub heads : (t : Symbol) (us : List Symbol) (x : A) (ts : List Symbol) → ts ≡ t ∷ us → P ts x → has ks t.sort ≡ true
  pub bheads : (t : Symbol) (us : List Symbol) (ts : List Symbol) → ts ≡ t ∷ us → B ts n → has ks t.sort ≡ true
  pub apart : disjoint ks ls ≡ true
  pub comes : (x : A) (us rest : List Symbol) → starts ls rest ≡ false → P us x → Comes x rest (one (us ++ rest))
  pub passes : (us : List Symbol) (n : ℕ) → B us n → Passes room n rest (one (us ++ rest))
  pub begins : (us : List Symbol) (x : A) → P us x → (k : ℕ) × B us k
  pub none : (us : List Symbol) → us ≡ [] → B us n → n ≡ 0
  pub bounds : (ts : List Symbol) → length (left (one ts)) ≤ length ts

row-tail : {A : Type 0} (ks : List ℕ) (one : List Symbol → Outcome A) → ((ts : List Symbol) → length (left (one ts)) ≤ length ts) → (m : ℕ) (x : A) (rest : List Symbol) → length (left (repeat (starts ks) one m rest >>= λ xs after. done (x ∷ xs) after)) ≤ length rest
row-tail ks one h m x rest = omega (arith, row-left (starts ks) one h m rest, bind-left (repeat (starts ks) one m rest) (λ xs after. done (x ∷ xs) after) (λ xs after. omega arith))

-- the first part of a row, and what is read of the rest
passes-first : (room n : ℕ) (rest : List Symbol) {A : Type 0} (P : List Symbol → A → Type 0) (B : List Symbol → ℕ → Type 0) (ks ls : List ℕ) (one : List Symbol → Outcome A) → RowLaws room n rest P B ks ls one
    → (x : A) (xs : List A) (a c vs : List Symbol) (m : ℕ) → P a x → Each P c xs → B vs n → Passes room n rest (repeat (starts ks) one m (c ++ (vs ++ rest)))
    → Passes room n rest (one (a ++ (c ++ (vs ++ rest))) >>= λ x rest. repeat (starts ks) one m rest >>= λ xs after. done (x ∷ xs) after)
passes-first room n rest {A} P B ks ls one laws x xs a c vs m p each b later =
    ⊎_elim
    (λ (z : c ++ vs ≡ []).
    let w = nil_parts c vs (sym z) in
    let k = laws.begins a x p in
    let same : a ++ (c ++ (vs ++ rest)) ≡ a ++ rest = ap (λ (u : List Symbol). a ++ (u ++ (vs ++ rest))) w.0 ∙ ap (λ (u : List Symbol). a ++ (u ++ rest)) w.1 in
    subst (λ (u : List Symbol). Passes room n rest (one u >>= λ x rest. repeat (starts ks) one m rest >>= λ xs after. done (x ∷ xs) after)) (sym same)
    (passes-bind room n rest (one (a ++ rest)) (λ x rest. repeat (starts ks) one m rest >>= λ xs after. done (x ∷ xs) after) (row-tail ks one laws.bounds m)
    (passes-zero room n k.0 rest (one (a ++ rest)) (laws.none vs w.1 b) (laws.passes a k.0 k.1))))
    (λ (z : c ++ vs ≡ [] → ⊥).
    let clear = next-clear P (λ ts. B ts n) ks ls laws.heads laws.bheads laws.apart xs c vs rest each b z in
    let o = laws.comes x a (c ++ (vs ++ rest)) clear p in
    let o' : Comes x ((c ++ vs) ++ rest) (one (a ++ (c ++ (vs ++ rest)))) = subst (λ (u : List Symbol). Comes x u (one (a ++ (c ++ (vs ++ rest))))) (sym (append_assoc c vs rest)) o in
    passes-after room n (c ++ vs) rest x (one (a ++ (c ++ (vs ++ rest)))) (λ x rest. repeat (starts ks) one m rest >>= λ xs after. done (x ∷ xs) after) o'
    (subst (λ (u : List Symbol). Passes room n rest (repeat (starts ks) one m u >>= λ xs after. done (x ∷ xs) after)) (sym (append_assoc c vs rest))
    (passes-bind room n rest (repeat (starts ks) one m (c ++ (vs ++ rest))) (λ xs after. done (x ∷ xs) after) (λ xs after. omega arith) later)))
    (nil_or (c ++ vs))

passes-row : (room n : ℕ) (rest : List Symbol) {A : Type 0} (P : List Symbol → A → Type 0) (B : List Symbol → ℕ → Type 0) (ks ls : List ℕ) (one : List Symbol → Outcome A) → RowLaws room n rest P B ks ls one
    → (xs : List A) (m : ℕ) (us vs : List Symbol) → length us + length vs ≤ m → Each P us xs → B vs n → Passes room n rest (repeat (starts ks) one m (us ++ (vs ++ rest)))
passes-row room n rest {A} P B ks ls one laws [] m us [] le each b =
    subst (λ (u : List Symbol). Passes room n rest (repeat (starts ks) one m (u ++ rest))) (sym each) (inl (row-left (starts ks) one laws.bounds m rest, omega (arith, laws.none [] refl b)))
passes-row room n rest {A} P B ks ls one laws [] zero us (t ∷ vs) le each b = absurd (omega arith)
passes-row room n rest {A} P B ks ls one laws [] (suc m) us (t ∷ vs) le each b =
    subst (λ (u : List Symbol). Passes room n rest (repeat (starts ks) one (suc m) (u ++ (t ∷ vs ++ rest)))) (sym each)
    (passes-choice room n rest (starts ks (t ∷ vs ++ rest)) (one (t ∷ vs ++ rest) >>= λ x rest. repeat (starts ks) one m rest >>= λ xs after. done (x ∷ xs) after) (done [] (t ∷ vs ++ rest)) (laws.bheads t vs (t ∷ vs) refl b)
    (passes-bind room n rest (one (t ∷ vs ++ rest)) (λ x rest. repeat (starts ks) one m rest >>= λ xs after. done (x ∷ xs) after) (row-tail ks one laws.bounds m) (laws.passes (t ∷ vs) n b)))
passes-row room n rest {A} P B ks ls one laws (x ∷ xs) zero us vs le each b =
    let z : us ≡ [] = nil_from_length us (omega arith) in
    absurd (laws.full x each.0 (nil_parts each.0 each.1 (sym z ∙ each.2)).0 each.3)
passes-row room n rest {A} P B ks ls one laws (x ∷ xs) (suc m) us vs le each b =
    let whole : us ++ (vs ++ rest) ≡ each.0 ++ (each.1 ++ (vs ++ rest)) = ap (λ (u : List Symbol). u ++ (vs ++ rest)) each.2 ∙ append_assoc each.0 each.1 (vs ++ rest) in
    let some : each.0 ≡ [] → ⊥ = λ z. laws.full x each.0 z each.3 in
    let s : starts ks (each.0 ++ (each.1 ++ (vs ++ rest))) ≡ true = starts-front ks each.0 (each.1 ++ (vs ++ rest)) some (λ t us z. laws.heads t us x each.0 z each.3) in
    let fewer : length each.1 + length vs ≤ m = omega (arith, positive each.0 some, ap length each.2, length-append each.0 each.1) in
    let later : Passes room n rest (repeat (starts ks) one m (each.1 ++ (vs ++ rest))) = passes-row room n rest P B ks ls one laws xs m each.1 vs fewer each.4 b in
    subst (λ (u : List Symbol). Passes room n rest (repeat (starts ks) one (suc m) u)) (sym whole)
    (passes-choice room n rest (starts ks (each.0 ++ (each.1 ++ (vs ++ rest)))) (one (each.0 ++ (each.1 ++ (vs ++ rest))) >>= λ x rest. repeat (starts ks) one m rest >>= λ xs after. done (x ∷ xs) after) (done [] (each.0 ++ (each.1 ++ (vs ++ rest)))) s
    (passes-first room n rest P B ks ls one laws x xs each.0 each.1 vs m each.3 each.4 b later))

abbrev pub NestPasses : ℕ → ℕ → Begun → Readers → Type 0
NestPasses limit room b r = (m : Nest) (t : Symbol) (us : List Symbol) (k : ℕ) (rest : List Symbol) → 3 * length (t ∷ us) + rank m < limit → b m (t ∷ us) k → Passes room (opened m k) rest (r m (t ∷ us ++ rest))

-- what is known of nested forms, and that those of fewer symbols are passed, and of as many where their rank is smaller
pub record Inner (limit room : ℕ) (w : Wholes) (b : Begun) (r : Readers) : Type 0 where
  pub inside : Inside w w b room r
  pub bheads : BegunHeads b
  pub bounds : Bounded r
  pub passes : NestPasses limit room b r

passes-nil : (limit room : ℕ) (w : Wholes) (b : Begun) (r : Readers) → Inner limit room w b r → {A : Type 0} (f : Form A) (ts : List Symbol) (n : ℕ) (rest : List Symbol) → ts ≡ [] → Begins w b f ts n → Passes room n rest (read r f (ts ++ rest))
passes-nil limit room w b r inner {A} f ts n rest z p = inl (omega (arith, bounded r inner.bounds f (ts ++ rest), ap (λ (u : List Symbol). length (u ++ rest)) z), omega (arith, nil-open w b f ts n z p))

passes-word : (room n : ℕ) (k : List ℕ) (t : Symbol) (rest : List Symbol) → n ≡ 0 → has k t.sort ≡ true → Passes room n rest (one_at k (t ∷ rest))
passes-word room n k t rest z e = subst (λ (o : Outcome Symbol). Passes room n rest o) (sym (word-again k t rest e)) (inl (omega arith, omega arith))

passes-skip : (room n : ℕ) (opens : List ℕ) (us rest : List Symbol) → n ≡ 0 → skip opens us ≡ done tt [] → Passes room n rest (skip opens (us ++ rest))
passes-skip room n opens us rest z e = subst (λ (o : Outcome (Unit {0})). Passes room n rest o) (sym (skip-again opens us rest e)) (inl (omega arith, omega arith))

-- these symbols are few enough, with forms that hold themselves of smaller ranks than this before the first one
abbrev Within : ℕ → ℕ → List Symbol → Type 0
Within limit k us = 3 * length us + k ≤ limit

each-within : {A : Type 0} (P : List Symbol → A → Type 0) (limit k : ℕ) (xs : List A) (us : List Symbol) → Within limit k us → Each P us xs → Each (λ vs x. P vs x × Within limit k vs) us xs
each-within P limit k [] us le each = each
each-within P limit k (x ∷ xs) us le each =
    let n : length us ≡ length each.0 + length each.1 = omega (arith, ap length each.2, length-append each.0 each.1) in
    (each.0, each.1, each.2, (each.3, omega (arith, le, n)), each-within P limit k xs each.1 (omega (arith, le, n)) each.4)

-- the second part of a pair: it stands behind a symbol, or begins with smaller ranks
second-within : {B : Type 0} (limit k : ℕ) (g : Form B) (ts us vs : List Symbol) (c : Bool) → Within limit k ts → ts ≡ us ++ vs → (us ≡ [] → c ≡ true) → (no c ≡ true) ⊎ (guarded k g ≡ true) → (P : Type 0) → ((j : ℕ) → guarded j g ≡ true → Within limit j vs → P) → P
second-within limit k g ts [] vs c le e z (inl n) P h = absurd (not_both c (z refl) (no_true c n))
second-within limit k g ts (u ∷ us) vs c le e z (inl n) P h = h 3 (any-guarded g) (omega (arith, le, ap length e, length-append us vs))
second-within limit k g ts us vs c le e z (inr n) P h = h k n (omega (arith, le, ap length e, length-append us vs))

pub passes : (limit k room : ℕ) (w : Wholes) (b : Begun) (r : Readers) → Inner limit room w b r → {A : Type 0} (f : Form A) → guarded k f ≡ true → ok f ≡ true → Fair w b f → (ts : List Symbol) → 3 * length ts + k ≤ limit → (n : ℕ) (rest : List Symbol) → Begins w b f ts n → Passes room n rest (read r f (ts ++ rest))
passes limit k room w b r inner (terminal ks) safe good fair ts le n rest (p, inl e) = passes-nil limit room w b r inner (terminal ks) ts n rest e (p, inl e)
passes limit k room w b r inner (terminal ks) safe good fair ts le n rest (p, inr q) = subst (λ (u : List Symbol). Passes room n rest (one_at ks (u ++ rest))) (sym q.1) (passes-word room n ks q.0 rest p q.2)
passes limit k room w b r inner (pair {A} {B} f g) safe good fair ts le n rest (inl p) =
    let s = both (guarded k f) (no (nullable f) || guarded k g) safe in
    let h = both (ok f) (ok g && disjoint (first g) (more f)) good in
    passes-bind room n rest {B = A × B} (read r f (ts ++ rest)) (λ x rest. read r g rest >>= λ y after. done (x, y) after)
    (λ x rest. omega (arith, bounded r inner.bounds g rest, bind-left {B = A × B} (read r g rest) (λ y after. done (x, y) after) (λ y after. omega arith)))
    (passes limit k room w b r inner f s.0 h.0 fair.0 ts le n rest p)
passes limit k room w b r inner (pair {A} {B} f g) safe good fair ts le n rest (inr q) =
    let s = both (guarded k f) (no (nullable f) || guarded k g) safe in
    let h = both (ok f) (ok g && disjoint (first g) (more f)) good in
    let i = both (ok g) (disjoint (first g) (more f)) h.1 in
    let known = inner.inside.known in
    let tail : (x : A) (rest : List Symbol) → length (left {A = A × B} (read r g rest >>= λ y after. done (x, y) after)) ≤ length rest = λ x rest. omega (arith, bounded r inner.bounds g rest, bind-left {B = A × B} (read r g rest) (λ y after. done (x, y) after) (λ y after. omega arith)) in
    let whole : ts ++ rest ≡ q.0 ++ (q.1 ++ rest) = ap (λ (u : List Symbol). u ++ rest) q.3 ∙ append_assoc q.0 q.1 rest in
    subst (λ (u : List Symbol). Passes room n rest {A = A × B} (read r (pair f g) u)) (sym whole)
    (⊎_elim
    (λ (z : q.1 ≡ []).
    let j = Is-begins w b known.full known.begins f q.0 q.2 q.4 in
    let same : q.0 ++ (q.1 ++ rest) ≡ q.0 ++ rest = ap (λ (u : List Symbol). q.0 ++ (u ++ rest)) z in
    subst (λ (u : List Symbol). Passes room n rest {A = A × B} (read r (pair f g) u)) (sym same)
    (passes-bind room n rest {B = A × B} (read r f (q.0 ++ rest)) (λ x rest. read r g rest >>= λ y after. done (x, y) after) tail
    (passes-zero room n j.0 rest (read r f (q.0 ++ rest)) (nil-open w b g q.1 n z q.5) (passes limit k room w b r inner f s.0 h.0 fair.0 q.0 (omega (arith, le, ap length q.3, length-append q.0 q.1)) j.0 rest j.1))))
    (λ (z : q.1 ≡ [] → ⊥).
    let clear = starts-not (more f) q.1 rest z (λ t us e. disjoint-has (first g) (more f) t.sort i.1 (Begins-head w b known.full inner.inside.heads inner.bheads g t us n q.1 e q.5)) in
    passes-after room n q.1 rest {B = A × B} q.2 (read r f (q.0 ++ (q.1 ++ rest))) (λ x rest. read r g rest >>= λ y after. done (x, y) after)
    (complete w w b room r inner.inside f h.0 fair.0 q.0 q.2 (q.1 ++ rest) clear q.4)
    (passes-bind room n rest {B = A × B} (read r g (q.1 ++ rest)) (λ y after. done (q.2, y) after) (λ y after. omega arith)
    (second-within limit k g ts q.0 q.1 (nullable f) le q.3 (λ e. Is-nil w known.full f q.0 q.2 e q.4) (one_or (no (nullable f)) (guarded k g) s.1) (Passes room n rest (read r g (q.1 ++ rest)))
    (λ j e le. passes limit j room w b r inner g e i.0 fair.1 q.1 le n rest q.5))))
    (nil_or q.1))
passes limit k room w b r inner (turn h f) safe good fair ts le n rest p =
    passes-bind room n rest (read r f (ts ++ rest)) (λ x rest. done (h x) rest) (λ x rest. omega arith) (passes limit k room w b r inner f safe good fair ts le n rest p)
passes limit k room w b r inner (seen {A} {B} h f) safe good fair ts le n rest p =
    passes-bind room n rest {B = B × A} (read r f (ts ++ rest)) (λ x after. done (h (read_of (ts ++ rest) after), x) after) (λ x after. omega arith) (passes limit k room w b r inner f safe good fair ts le n rest p)
passes limit k room w b r inner (maybe {A} f) safe good fair ts le n rest p =
    let h = both (ok f) (no (nullable f)) good in
    ⊎_elim (λ (z : ts ≡ []). passes-nil limit room w b r inner (maybe f) ts n rest z p)
    (λ (z : ts ≡ [] → ⊥).
    let s = starts-front (first f) ts rest z (λ t us e. Begins-head w b inner.inside.full inner.inside.heads inner.bheads f t us n ts e p) in
    passes-choice room n rest (starts (first f) (ts ++ rest)) (read r f (ts ++ rest) >>= λ x rest. done (Some x) rest) (done None (ts ++ rest)) s
    (passes-bind room n rest (read r f (ts ++ rest)) (λ (x : A) rest. done (Some x) rest) (λ x rest. omega arith) (passes limit k room w b r inner f safe h.0 fair ts le n rest p)))
    (nil_or ts)
passes limit k room w b r inner (many f) safe good fair ts le n rest q =
    let p = both (ok f) (no (nullable f) && disjoint (first f) (more f)) good in
    let s = both (no (nullable f)) (disjoint (first f) (more f)) p.1 in
    let known = inner.inside.known in
    let whole : ts ++ rest ≡ q.0 ++ (q.1 ++ rest) = ap (λ (u : List Symbol). u ++ rest) q.3 ∙ append_assoc q.0 q.1 rest in
    let few : length ts ≡ length q.0 + length q.1 = omega (arith, ap length q.3, length-append q.0 q.1) in
    let laws : RowLaws room n rest (λ us x. Is w f us x × Within limit k us) (λ us n. Begins w b f us n × Within limit k us) (first f) (more f) (read r f) = record {
      full = λ x us z is. not_both (nullable f) (Is-nil w known.full f us x z is.0) (no_true (nullable f) s.0);
      heads = λ t us x ts z is. Is-head w known.full inner.inside.heads f t us x ts z is.0;
      bheads = λ t us ts e p. Begins-head w b known.full inner.inside.heads inner.bheads f t us n ts e p.0;
      apart = s.1;
      comes = λ x us rest c is. complete w w b room r inner.inside f p.0 fair us x rest c is.0;
      passes = λ us n p'. passes limit k room w b r inner f safe p.0 fair us p'.1 n rest p'.0;
      begins = λ us x is. let j = Is-begins w b known.full known.begins f us x is.0 in (j.0, (j.1, is.1));
      none = λ us z p. nil-open w b f us n z p.0;
      bounds = bounded r inner.bounds f;
    } in
    let enough : length q.0 + length q.1 ≤ length (q.0 ++ (q.1 ++ rest)) = omega (arith, length-append q.0 (q.1 ++ rest), length-append q.1 rest) in
    subst (λ (u : List Symbol). Passes room n rest (read r (many f) u)) (sym whole)
    (passes-row room n rest (λ us x. Is w f us x × Within limit k us) (λ us n. Begins w b f us n × Within limit k us) (first f) (more f) (read r f) laws q.2 (length (q.0 ++ (q.1 ++ rest))) q.0 q.1 enough
    (each-within (Is w f) limit k q.2 q.0 (omega (arith, le, few)) q.4) (q.5, omega (arith, le, few)))
passes limit k room w b r inner (either f g) safe good fair ts le n rest (inl p) =
    let h = both (ok f) (ok g && (no (nullable f) && (no (nullable g) && disjoint (first g) (first f)))) good in
    ⊎_elim (λ (z : ts ≡ []). passes-nil limit room w b r inner (either f g) ts n rest z (inl p))
    (λ (z : ts ≡ [] → ⊥).
    passes-choice room n rest (starts (first f) (ts ++ rest)) (read r f (ts ++ rest)) (read r g (ts ++ rest)) (starts-front (first f) ts rest z (λ t us e. Begins-head w b inner.inside.full inner.inside.heads inner.bheads f t us n ts e p))
    (passes limit k room w b r inner f (both (guarded k f) (guarded k g) safe).0 h.0 fair.0 ts le n rest p))
    (nil_or ts)
passes limit k room w b r inner (either f g) safe good fair ts le n rest (inr p) =
    let h = both (ok f) (ok g && (no (nullable f) && (no (nullable g) && disjoint (first g) (first f)))) good in
    let i = both (ok g) (no (nullable f) && (no (nullable g) && disjoint (first g) (first f))) h.1 in
    let j = both (no (nullable f)) (no (nullable g) && disjoint (first g) (first f)) i.1 in
    let d = both (no (nullable g)) (disjoint (first g) (first f)) j.1 in
    ⊎_elim (λ (z : ts ≡ []). passes-nil limit room w b r inner (either f g) ts n rest z (inr p))
    (λ (z : ts ≡ [] → ⊥).
    passes-other room n rest (starts (first f) (ts ++ rest)) (read r f (ts ++ rest)) (read r g (ts ++ rest)) (starts-not (first f) ts rest z (λ t us e. disjoint-has (first g) (first f) t.sort d.1 (Begins-head w b inner.inside.full inner.inside.heads inner.bheads g t us n ts e p)))
    (passes limit k room w b r inner g (both (guarded k f) (guarded k g) safe).1 i.0 fair.1 ts le n rest p))
    (nil_or ts)
passes limit k room w b r inner (nest m) safe good fair ts le n rest (inl p) = passes-nil limit room w b r inner (nest m) ts n rest p.0 (inl p)
passes limit k room w b r inner (nest m) safe good fair ts le n rest (inr q) =
    subst (λ (j : ℕ). Passes room j rest (r m (ts ++ rest))) (sym q.4)
    (subst (λ (u : List Symbol). Passes room (opened m q.2) rest (r m (u ++ rest))) (sym q.3)
    (inner.passes m q.0 q.1 q.2 rest (omega (arith, le, rank-below m k safe, ap length q.3)) (subst (λ (u : List Symbol). b m u q.2) q.3 q.5)))
passes limit k room w b r inner (over opens) safe good fair ts le n rest (p, inl e) = inl (skip-goes opens ts rest e, omega arith)
passes limit k room w b r inner (over opens) safe good fair ts le n rest (p, inr e) = passes-skip room n opens ts rest p e
passes limit k room w b r inner (attempt f g) safe good fair ts le n rest (inl p) =
    passes-first-reading room n w b f g fair.2 ts rest p (read r f (ts ++ rest)) (read r g (ts ++ rest)) (told room w b r inner.inside.known.told g (ts ++ rest))
    (passes limit k room w b r inner f (both (guarded k f) (guarded k g) safe).0 (both (ok f) (ok g) good).0 fair.0 ts le n rest p)
passes limit k room w b r inner (attempt f g) safe good fair ts le n rest (inr p) =
    passes-other-reading room n w b r inner.inside.known f g fair.2 ts rest p (read r f (ts ++ rest)) (read r g (ts ++ rest)) (told room w b r inner.inside.known.told f (ts ++ rest))
    (λ j q. passes limit k room w b r inner f (both (guarded k f) (guarded k g) safe).0 (both (ok f) (ok g) good).0 fair.0 ts le j rest q)
    (passes limit k room w b r inner g (both (guarded k f) (guarded k g) safe).1 (both (ok f) (ok g) good).1 fair.1 ts le n rest p)
