-- What is decided of symbols: which cut of them has a property, whether they are a phrase, and whether a phrase begins with one of them.
use Rattle.std.proofs.Common.{◌≡◌, ◌≢◌, eqb, ℕ, ◌*◌, ◌<◌, ◌≤◌, Bool, true, false, List, [], ◌∷◌, ◌++◌, ◌⊎◌, inl, inr, length, refl, sym, ap, subst, ◌∙◌, length-append, arith}
use Rattle.std.proofs.lemmas.Bool.{cases_lt}
use Rattle.std.proofs.lemmas.Bool.Decides.{eqb_tells}
use Rattle.std.proofs.lemmas.List.{append-nil}
use Rattle.decl_grammar.specs.declared.symbol.Symbol.{Symbol}
use Rattle.decl_grammar.specs.Reading.{Outcome, done, fault, deep}
use Rattle.decl_grammar.specs.Form.{Form}
use Rattle.decl_grammar.specs.File.{IsPhrase, BeginsPhrase, IsFirstFault, phrase_at}
use Rattle.decl_grammar.proofs.Knot.{IsSound}
use Rattle.decl_grammar.proofs.Law.{phrase-found, phrase-fault, phrase-fits, phrase-unique}
use Rattle.decl_grammar.proofs.Prefixes.{reading-front}
use Rattle.decl_limits.specs.Children.{OpensWith, Then}

-- it holds, or it doesn't
abbrev pub Decided : Type 0 → Type 0
Decided P = P ⊎ (P → ⊥)

pub both-decided : {P Q : Type 0} → Decided P → Decided Q → Decided (P × Q)
both-decided (inl p) (inl q) = inl (p, q)
both-decided (inl p) (inr never) = inr (λ b. never b.1)
both-decided (inr never) d = inr (λ b. never b.0)

neither : {P Q : Type 0} → (P → ⊥) → (Q → ⊥) → P ⊎ Q → ⊥
neither never none (inl p) = never p
neither never none (inr q) = none q

pub or-decided : {P Q : Type 0} → Decided P → Decided Q → Decided (P ⊎ Q)
or-decided (inl p) d = inl (inl p)
or-decided (inr never) (inl q) = inl (inr q)
or-decided (inr never) (inr none) = inr (neither never none)

-- what says the same is decided too
pub same-decided : {P Q : Type 0} → (P → Q) → (Q → P) → Decided P → Decided Q
same-decided to from (inl p) = inl (to p)
same-decided to from (inr never) = inr (λ q. never (from q))

pub equal-decided : (m n : ℕ) → Decided (m ≡ n)
equal-decided m n = go (eqb_tells m n)
  where
    go : ((eqb m n ≡ true) × (m ≡ n)) ⊎ ((eqb m n ≡ false) × (m ≢ n)) → Decided (m ≡ n)
    go (inl is) = inl is.1
    go (inr not) = inr not.1

pub most-decided : (m n : ℕ) → Decided (m ≤ n)
most-decided m n = go (cases_lt n m)
  where
    go : (n < m) ⊎ (m ≤ n) → Decided (m ≤ n)
    go (inl more) = inr (λ le. omega (arith, more, le))
    go (inr le) = inl le

pub less-decided : (m n : ℕ) → Decided (m < n)
less-decided m n = go (cases_lt m n)
  where
    go : (m < n) ⊎ (n ≤ m) → Decided (m < n)
    go (inl less) = inl less
    go (inr le) = inr (λ less. omega (arith, less, le))

pub false-decided : (b : Bool) → Decided (b ≡ false)
false-decided true = inr (λ e. absurd cc)
false-decided false = inl refl

-- ---- cuts of a list

abbrev tail_of : List Symbol → List Symbol
tail_of [] = []
tail_of (x ∷ xs) = xs

abbrev head_of : Symbol → List Symbol → Symbol
head_of x [] = x
head_of x (y ∷ ys) = y

-- the symbols are some, and then others, of which this holds
abbrev pub CutWith : List Symbol → (List Symbol → List Symbol → Type 0) → Type 0
CutWith ts P = (us : List Symbol) × (vs : List Symbol) × (ts ≡ us ++ vs) × P us vs

at-end : (P : List Symbol → List Symbol → Type 0) (us vs : List Symbol) → [] ≡ us ++ vs → P us vs → P [] []
at-end P [] vs e p = subst (λ (x : List Symbol). P [] x) (sym e) p
at-end P (u ∷ us) vs e p = absurd (let some : [] ≡ u ∷ (us ++ vs) = e in cc)

not-at : (t : Symbol) (ts : List Symbol) (P : List Symbol → List Symbol → Type 0) → (P [] (t ∷ ts) → ⊥) → (CutWith ts (λ us vs. P (t ∷ us) vs) → ⊥) → (us vs : List Symbol) → t ∷ ts ≡ us ++ vs → P us vs → ⊥
not-at t ts P never none [] vs e p = never (subst (λ (x : List Symbol). P [] x) (sym e) p)
not-at t ts P never none (u ∷ us) vs e p = none (us, vs, ap tail_of e, subst (λ (x : Symbol). P (x ∷ us) vs) (sym (ap (head_of t) e)) p)

at-first : (t : Symbol) (ts : List Symbol) (P : List Symbol → List Symbol → Type 0) → Decided (P [] (t ∷ ts)) → Decided (CutWith ts (λ us vs. P (t ∷ us) vs)) → Decided (CutWith (t ∷ ts) P)
at-first t ts P (inl p) later = inl ([], t ∷ ts, refl, p)
at-first t ts P (inr never) (inl s) = inl (t ∷ s.0, s.1, ap (λ (xs : List Symbol). t ∷ xs) s.2, s.3)
at-first t ts P (inr never) (inr none) = inr (λ s. not-at t ts P never none s.0 s.1 s.2 s.3)

at-none : (P : List Symbol → List Symbol → Type 0) → Decided (P [] []) → Decided (CutWith [] P)
at-none P (inl p) = inl ([], [], refl, p)
at-none P (inr never) = inr (λ s. never (at-end P s.0 s.1 s.2 s.3))

pub cut-decided : (ts : List Symbol) (P : List Symbol → List Symbol → Type 0) → ((us vs : List Symbol) → ts ≡ us ++ vs → Decided (P us vs)) → Decided (CutWith ts P)
cut-decided [] P d = at-none P (d [] [] refl)
cut-decided (t ∷ ts) P d =
    at-first t ts P (d [] (t ∷ ts) refl) (cut-decided ts (λ us vs. P (t ∷ us) vs) (λ us vs e. d (t ∷ us) vs (ap (λ (xs : List Symbol). t ∷ xs) e)))

-- the symbols are one, and then others, of which this holds
abbrev pub HeadWith : (Symbol → List Symbol → Type 0) → List Symbol → Type 0
HeadWith P ts = (t : Symbol) × (us : List Symbol) × (ts ≡ t ∷ us) × P t us

pub head-decided : (P : Symbol → List Symbol → Type 0) → ((t : Symbol) (us : List Symbol) → Decided (P t us)) → (ts : List Symbol) → Decided (HeadWith P ts)
head-decided P d [] = inr (λ p. absurd (let none : [] ≡ p.0 ∷ p.1 = p.2 in cc))
head-decided P d (t ∷ ts) = go (d t ts)
  where
    back : (s : Symbol) (us : List Symbol) → t ∷ ts ≡ s ∷ us → P s us → P t ts
    back s us e p = subst (λ (x : Symbol). P x ts) (sym (ap (head_of t) e)) (subst (λ (xs : List Symbol). P s xs) (sym (ap tail_of e)) p)

    go : Decided (P t ts) → Decided (HeadWith P (t ∷ ts))
    go (inl p) = inl (t, ts, refl, p)
    go (inr never) = inr (λ p. never (back p.0 p.1 p.2 p.3))

-- one symbol, of which this holds
pub one-decided : (Q : Symbol → Type 0) → ((t : Symbol) → Decided (Q t)) → (ts : List Symbol) → Decided ((t : Symbol) × (ts ≡ t ∷ []) × Q t)
one-decided Q d [] = inr (λ p. absurd (let none : [] ≡ p.0 ∷ [] = p.1 in cc))
one-decided Q d (t ∷ []) = go (d t)
  where
    go : Decided (Q t) → Decided ((s : Symbol) × (t ∷ [] ≡ s ∷ []) × Q s)
    go (inl q) = inl (t, refl, q)
    go (inr never) = inr (λ p. never (subst Q (sym (ap (head_of t) p.1)) p.2))
one-decided Q d (t ∷ s ∷ ts) = inr (λ p. absurd (let two : s ∷ ts ≡ [] = ap tail_of p.1 in cc))

-- two symbols
pub two-decided : (Q : Symbol → Symbol → Type 0) → ((s t : Symbol) → Decided (Q s t)) → (ts : List Symbol) → Decided ((s : Symbol) × (t : Symbol) × (ts ≡ s ∷ t ∷ []) × Q s t)
two-decided Q d [] = inr (λ p. absurd (let none : [] ≡ p.0 ∷ p.1 ∷ [] = p.2 in cc))
two-decided Q d (s ∷ []) = inr (λ p. absurd (let one : [] ≡ p.1 ∷ [] = ap tail_of p.2 in cc))
two-decided Q d (s ∷ t ∷ []) = go (d s t)
  where
    back : (x y : Symbol) → s ∷ t ∷ [] ≡ x ∷ y ∷ [] → Q x y → Q s t
    back x y e q = subst (λ (z : Symbol). Q z t) (sym (ap (head_of s) e)) (subst (λ (z : Symbol). Q x z) (sym (ap (λ (xs : List Symbol). head_of t (tail_of xs)) e)) q)

    go : Decided (Q s t) → Decided ((x : Symbol) × (y : Symbol) × (s ∷ t ∷ [] ≡ x ∷ y ∷ []) × Q x y)
    go (inl q) = inl (s, t, refl, q)
    go (inr never) = inr (λ p. never (back p.0 p.1 p.2 p.3))
two-decided Q d (s ∷ t ∷ u ∷ ts) = inr (λ p. absurd (let three : u ∷ ts ≡ [] = ap (λ (xs : List Symbol). tail_of (tail_of xs)) p.2 in cc))

-- ---- phrases

module _ {A : Type 0} (f : Form A) (sound : IsSound f) where
  pub phrase-decided : (ts : List Symbol) → Decided ((x : A) × IsPhrase f ts x)
  phrase-decided ts = go (phrase_at (3 * length ts) f ts) refl
    where
      go : (o : Outcome A) → phrase_at (3 * length ts) f ts ≡ o → Decided ((x : A) × IsPhrase f ts x)
      go (done x rest) e = inl (x, phrase-found f (3 * length ts) ts x rest e)
      go (fault at) e = inr (λ found. (phrase-fault f sound (3 * length ts) ts at e).1.none found.0 found.1)
      go (deep at) e = absurd (phrase-fits f (3 * length ts) ts at (omega arith) e)

  -- symbols have one meaning, of which this holds
  pub meaning-decided : (P : A → Type 0) (ts : List Symbol) → ((x : A) → IsPhrase f ts x → Decided (P x)) → Decided ((x : A) × IsPhrase f ts x × P x)
  meaning-decided P ts d = go (phrase-decided ts)
    where
      of_it : (x : A) → IsPhrase f ts x → Decided (P x) → Decided ((y : A) × IsPhrase f ts y × P y)
      of_it x is (inl p) = inl (x, is, p)
      of_it x is (inr never) = inr (λ found. never (subst P (phrase-unique f sound ts found.0 x found.1 is) found.2))

      go : Decided ((x : A) × IsPhrase f ts x) → Decided ((x : A) × IsPhrase f ts x × P x)
      go (inl found) = of_it found.0 found.1 (d found.0 found.1)
      go (inr none) = inr (λ found. none (found.0, found.1))

  -- and so of what stands behind such symbols
  pub then-decided : (p : A → List Symbol → Type 0) (ts : List Symbol) → ((us vs : List Symbol) (x : A) → ts ≡ us ++ vs → IsPhrase f us x → Decided (p x vs)) → Decided (Then f p ts)
  then-decided p ts d =
      same-decided {P = CutWith ts (λ us vs. (x : A) × IsPhrase f us x × p x vs)} {Q = Then f p ts} (λ s. (s.0, s.1, s.3.0, s.2, s.3.1, s.3.2)) (λ t. (t.0, t.1, t.3, (t.2, t.4, t.5)))
      (cut-decided ts (λ us vs. (x : A) × IsPhrase f us x × p x vs) (λ us vs e. meaning-decided (λ x. p x vs) us (λ x is. d us vs x e is)))

  -- a phrase begins with this symbol
  by_fault : (t : Symbol) (us at : List Symbol) → IsFirstFault f (3 * length (t ∷ [])) (t ∷ []) us at → Decided (OpensWith f t)
  by_fault t us [] first = inl (subst (λ (xs : List Symbol). (n : ℕ) × BeginsPhrase f xs n) (sym (first.parts ∙ append-nil us)) first.begins)
  by_fault t [] (s ∷ at) first = inr (λ b. first.wrong t [] b.0 (sym first.parts) b.1)
  by_fault t (u ∷ us) (s ∷ at) first = absurd (omega (arith, ap length first.parts, length-append (u ∷ us) (s ∷ at)))

  pub opens-decided : (t : Symbol) → Decided (OpensWith f t)
  opens-decided t = go (phrase_at (3 * length (t ∷ [])) f (t ∷ [])) refl
    where
      go : (o : Outcome A) → phrase_at (3 * length (t ∷ [])) f (t ∷ []) ≡ o → Decided (OpensWith f t)
      go (done x rest) e = inl (reading-front f (t ∷ []) [] x (phrase-found f (3 * length (t ∷ [])) (t ∷ []) x rest e))
      go (fault at) e = let p = phrase-fault f sound (3 * length (t ∷ [])) (t ∷ []) at e in by_fault t p.0 at p.1
      go (deep at) e = absurd (phrase-fits f (3 * length (t ∷ [])) (t ∷ []) at (omega arith) e)
