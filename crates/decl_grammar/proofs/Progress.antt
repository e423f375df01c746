-- Reading leaves no more tokens than there were, and fewer where the form is not empty.
use Rattle.std.proofs.Common.{◌≡◌, ℕ, zero, suc, ◌+◌, ◌≤◌, Bool, true, false, cond, List, [], ◌∷◌, length, Option, Some, None, ◌⊎◌, refl, ap, arith, inl, inr}
use Rattle.std.specs.Prelude.{◌||◌, ◌&&◌}
use Rattle.decl_grammar.specs.declared.symbol.Symbol.{Symbol}
use Rattle.std.specs.Option.{option_map_or}
use Rattle.decl_grammar.specs.Reading.{starts, Outcome, done, fault, deep, ◌>>=◌, one_at, after, pass, has, skip, read_of}
use Rattle.decl_grammar.specs.Form.{Nest, Of, Form, terminal, pair, turn, maybe, many, either, nest, over, seen, attempt, nullable, first, repeat, attempted, read}

-- the steps of a reading that did not fail
pub bind_done : {A B : Type 0} (r : Outcome A) (f : A → List Symbol → Outcome B) (y : B) (rest : List Symbol) → (r >>= f) ≡ done y rest → (x : A) × (at : List Symbol) × (r ≡ done x at) × (f x at ≡ done y rest)
bind_done (done x at) f y rest e = (x, at, refl, e)
bind_done (fault at) f y rest e = absurd cc
bind_done (deep at) f y rest e = absurd cc

pub choice_done : {A : Type 0} (b : Bool) (p q : Outcome A) (y : A) (rest : List Symbol) → cond b p q ≡ done y rest → ((b ≡ true) × (p ≡ done y rest)) ⊎ ((b ≡ false) × (q ≡ done y rest))
choice_done true p q y rest e = inl (refl, e)
choice_done false p q y rest e = inr (refl, e)

pub done_rest : {A : Type 0} (x y : A) (a b : List Symbol) → done x a ≡ done y b → a ≡ b
done_rest x y a b e = cc

-- two readings that did not fail
attempt_done : {A : Type 0} (o p : Outcome A) (x : A) (rest : List Symbol) → attempted o p ≡ done x rest → (o ≡ done x rest) ⊎ (p ≡ done x rest)
attempt_done (done y at) p x rest e = inl e
attempt_done (fault at) (done y to) x rest e = inr e
attempt_done (fault at) (fault to) x rest e = absurd cc
attempt_done (fault at) (deep to) x rest e = absurd cc
attempt_done (deep at) p x rest e = absurd cc

-- one token at least, where there is no empty form
abbrev pub least : Bool → ℕ
least b = cond b 0 1

abbrev pub Shrinks : ((m : Nest) → List Symbol → Outcome (Of m)) → Type 0
Shrinks inner = (m : Nest) (ts : List Symbol) (x : Of m) (rest : List Symbol) → inner m ts ≡ done x rest → length rest + 1 ≤ length ts

least-and : (a b : Bool) → least (a && b) ≤ least a + least b
least-and true b = omega arith
least-and false b = omega arith

least-or : (a b : Bool) → (least (a || b) ≤ least a) × (least (a || b) ≤ least b)
least-or true true = (omega arith, omega arith)
least-or true false = (omega arith, omega arith)
least-or false true = (omega arith, omega arith)
least-or false false = (omega arith, omega arith)

pub word-shorter : (k : List ℕ) (ts : List Symbol) (x : Symbol) (rest : List Symbol) → one_at k ts ≡ done x rest → length rest + 1 ≤ length ts
unfolding one_at
word-shorter k [] x rest e = absurd cc
word-shorter k (t ∷ ts) x rest e =
    elim (choice_done (has k t.sort) (done t ts) (fault (t ∷ ts)) x rest e) [
      | inl p ↦ omega (arith, ap length (done_rest t x ts rest p.1))
      | inr p ↦ absurd cc
    ]

pass-shorter : (ks : List ℕ) (ts : List Symbol) (x : Unit {0}) (rest : List Symbol) → pass ks ts ≡ done x rest → length rest ≤ length ts
unfolding pass
pass-shorter [] ts x rest e = omega (arith, ap length (done_rest tt x ts rest e))
pass-shorter (k ∷ ks) [] x rest e = absurd cc
pass-shorter (k ∷ ks) (t ∷ ts) x rest e = go (after k ks t) e (λ next h. pass-shorter next ts x rest h)
  where
    go : (o : Option (List ℕ)) → option_map_or (λ next. pass next ts) o (fault (t ∷ ts)) ≡ done x rest → ((next : List ℕ) → pass next ts ≡ done x rest → length rest ≤ length ts) → length rest ≤ suc (length ts)
    go None e h = absurd cc
    go (Some next) e h = let p = h next e in omega arith

skip-shorter : (opens : List ℕ) (ts : List Symbol) (x : Unit {0}) (rest : List Symbol) → skip opens ts ≡ done x rest → length rest + 1 ≤ length ts
skip-shorter opens ts x rest e =
    let a = bind_done (one_at opens ts) (λ t rest. pass (suc t.sort ∷ []) rest) x rest e in
    omega (arith, word-shorter opens ts a.0 a.1 a.2, pass-shorter (suc a.0.sort ∷ []) a.1 x rest a.3)

repeat-shorter : {A : Type 0} (more : List Symbol → Bool) (one : List Symbol → Outcome A) → ((ts : List Symbol) (x : A) (rest : List Symbol) → one ts ≡ done x rest → length rest ≤ length ts)
    → (n : ℕ) (ts : List Symbol) (xs : List A) (rest : List Symbol) → repeat more one n ts ≡ done xs rest → length rest ≤ length ts
repeat-shorter more one h zero ts xs rest e = omega (arith, ap length (done_rest [] xs ts rest e))
repeat-shorter more one h (suc n) ts xs rest e =
    elim (choice_done (more ts) (one ts >>= λ x rest. repeat more one n rest >>= λ xs after. done (x ∷ xs) after) (done [] ts) xs rest e) [
      | inl p ↦
          let a = bind_done (one ts) (λ x rest. repeat more one n rest >>= λ xs after. done (x ∷ xs) after) xs rest p.1 in
          let b = bind_done (repeat more one n a.1) (λ xs after. done (a.0 ∷ xs) after) xs rest a.3 in
          omega (arith, h ts a.0 a.1 a.2, repeat-shorter more one h n a.1 b.0 b.1 b.2, ap length (done_rest (a.0 ∷ b.0) xs b.1 rest b.3))
      | inr p ↦ omega (arith, ap length (done_rest [] xs ts rest p.1))
    ]

pub shorter : (inner : (m : Nest) → List Symbol → Outcome (Of m)) → Shrinks inner → {A : Type 0} (f : Form A) (ts : List Symbol) (x : A) (rest : List Symbol) → read inner f ts ≡ done x rest → length rest + least (nullable f) ≤ length ts
shorter inner h (terminal k) ts x rest e = word-shorter k ts x rest e
shorter inner h (pair f g) ts x rest e =
    let a = bind_done (read inner f ts) (λ x rest. read inner g rest >>= λ y after. done (x, y) after) x rest e in
    let b = bind_done (read inner g a.1) (λ y after. done (a.0, y) after) x rest a.3 in
    omega (arith, least-and (nullable f) (nullable g), shorter inner h f ts a.0 a.1 a.2, shorter inner h g a.1 b.0 b.1 b.2, ap length (done_rest (a.0, b.0) x b.1 rest b.3))
shorter inner h (turn k f) ts x rest e =
    let a = bind_done (read inner f ts) (λ x rest. done (k x) rest) x rest e in
    omega (arith, shorter inner h f ts a.0 a.1 a.2, ap length (done_rest (k a.0) x a.1 rest a.3))
shorter inner h (seen k f) ts x rest e =
    let a = bind_done (read inner f ts) (λ x rest. done (k (read_of ts rest), x) rest) x rest e in
    omega (arith, shorter inner h f ts a.0 a.1 a.2, ap length (done_rest (k (read_of ts a.1), a.0) x a.1 rest a.3))
shorter inner h (maybe f) ts x rest e =
    elim (choice_done (starts (first f) ts) (read inner f ts >>= λ x rest. done (Some x) rest) (done None ts) x rest e) [
      | inl p ↦
          let a = bind_done (read inner f ts) (λ x rest. done (Some x) rest) x rest p.1 in
          omega (arith, shorter inner h f ts a.0 a.1 a.2, ap length (done_rest (Some a.0) x a.1 rest a.3))
      | inr p ↦ omega (arith, ap length (done_rest None x ts rest p.1))
    ]
shorter inner h (many f) ts x rest e =
    let one : (ts : List Symbol) (x : _) (rest : List Symbol) → read inner f ts ≡ done x rest → length rest ≤ length ts = λ ts x rest e. omega (arith, shorter inner h f ts x rest e) in
    omega (arith, repeat-shorter (starts (first f)) (read inner f) one (length ts) ts x rest e)
shorter inner h (either f g) ts x rest e =
    elim (choice_done (starts (first f) ts) (read inner f ts) (read inner g ts) x rest e) [
      | inl p ↦ omega (arith, least-or (nullable f) (nullable g), shorter inner h f ts x rest p.1)
      | inr p ↦ omega (arith, least-or (nullable f) (nullable g), shorter inner h g ts x rest p.1)
    ]
shorter inner h (nest m) ts x rest e = h m ts x rest e
shorter inner h (over opens) ts x rest e = skip-shorter opens ts x rest e
shorter inner h (attempt f g) ts x rest e =
    elim (attempt_done (read inner f ts) (read inner g ts) x rest e) [
      | inl p ↦ omega (arith, least-or (nullable f) (nullable g), shorter inner h f ts x rest p)
      | inr p ↦ omega (arith, least-or (nullable f) (nullable g), shorter inner h g ts x rest p)
    ]
