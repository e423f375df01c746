-- A symbol that may begin a form does.
use Rattle.std.proofs.Common.{◌≡◌, ℕ, suc, ◌<◌, Bool, true, false, cond, List, [], ◌∷◌, ◌++◌, ◌⊎◌, None, refl, sym, ap, ◌∙◌, inl, inr, ⊎_elim}
use Rattle.std.specs.Prelude.{◌||◌}
use Rattle.decl_grammar.specs.declared.symbol.Symbol.{Symbol}
use Rattle.decl_grammar.specs.Reading.{has, done, fault, ◌>>=◌, one_at, pass, skip}
use Rattle.decl_grammar.specs.Form.{Nest, first_of, opened, Form, terminal, pair, turn, maybe, many, either, seen, nest, over, attempt, nullable, first, Wholes, Begun, Is, Begins}
use Rattle.decl_grammar.proofs.OneToken.{no, both, one_or, has-append, rank, rank-below, guarded}

-- no symbols are a form that may be empty
pub nothing-is : (w : Wholes) {A : Type 0} (f : Form A) → nullable f ≡ true → (x : A) × Is w f [] x
nothing-is w (terminal k) e = absurd cc
nothing-is w (pair {A} {B} f g) e =
    let n = both (nullable f) (nullable g) e in
    let p = nothing-is w f n.0 in
    let q = nothing-is w g n.1 in
    couple p.0 q.0 p.1 q.1
  where
    couple : (x : A) (y : B) → Is w f [] x → Is w g [] y → (z : A × B) × Is w (pair f g) [] z
    couple x y p q = ((x, y), ([], [], refl, p, q))
nothing-is w (turn h f) e = let p = nothing-is w f e in (h p.0, (p.0, p.1, refl))
nothing-is w (maybe f) e = (None, refl)
nothing-is w (many f) e = ([], refl)
nothing-is w (either f g) e = ⊎_elim (λ n. let p = nothing-is w f n in (p.0, inl p.1)) (λ n. let p = nothing-is w g n in (p.0, inr p.1)) (one_or (nullable f) (nullable g) e)
nothing-is w (seen {A} {B} h f) e = let p = nothing-is w f e in show p.0 p.1
  where
    show : (x : A) → Is w f [] x → (z : B × A) × Is w (seen h f) [] z
    show x p = ((h [], x), (p, refl))
nothing-is w (nest m) e = absurd cc
nothing-is w (over opens) e = absurd cc
nothing-is w (attempt f g) e = ⊎_elim (λ n. let p = nothing-is w f n in (p.0, inl p.1)) (λ n. let p = nothing-is w g n in (p.0, inr p.1)) (one_or (nullable f) (nullable g) e)

skip-opened : (opens : List ℕ) (t : Symbol) → has opens t.sort ≡ true → skip opens (t ∷ []) ≡ fault []
unfolding one_at pass
skip-opened opens t e = ap (λ (c : Bool). cond c (done t []) (fault (t ∷ [])) >>= λ t rest. pass (suc t.sort ∷ []) rest) e

-- a symbol that begins a pair begins its first part, or its second one where the first may be empty
pair-split : (c : Bool) (ks ls : List ℕ) (n : ℕ) → has (cond c (ks ++ ls) ks) n ≡ true → (has ks n ≡ true) ⊎ ((c ≡ true) × (has ls n ≡ true))
pair-split true ks ls n e = ⊎_elim (λ z. inl z) (λ z. inr (refl, z)) (one_or (has ks n) (has ls n) (sym (has-append ks ls n) ∙ e))
pair-split false ks ls n e = inl e

second-guarded : (c d : Bool) → (no c || d) ≡ true → c ≡ true → d ≡ true
second-guarded true d e z = e
second-guarded false d e z = absurd cc

-- a symbol that may begin a form of a smaller rank than this begins it
abbrev pub Opens : Begun → ℕ → Type 0
Opens b k = (m : Nest) → rank m < k → (t : Symbol) → has (first_of m) t.sort ≡ true → (n : ℕ) × b m (t ∷ []) n

pub opens-form : (w : Wholes) (b : Begun) (k : ℕ) → Opens b k → {A : Type 0} (f : Form A) → guarded k f ≡ true → (t : Symbol) → has (first f) t.sort ≡ true → (n : ℕ) × Begins w b f (t ∷ []) n
opens-form w b k inner (terminal ks) good t e = (0, (refl, inr (t, refl, e)))
opens-form w b k inner (pair f g) good t e =
    let p = both (guarded k f) (no (nullable f) || guarded k g) good in
    ⊎_elim
    (λ (z : has (first f) t.sort ≡ true). let q = opens-form w b k inner f p.0 t z in (q.0, inl q.1))
    (λ (z : (nullable f ≡ true) × (has (first g) t.sort ≡ true)).
    let x = nothing-is w f z.0 in
    let q = opens-form w b k inner g (second-guarded (nullable f) (guarded k g) p.1 z.0) t z.1 in
    (q.0, inr ([], t ∷ [], x.0, refl, x.1, q.1)))
    (pair-split (nullable f) (first f) (first g) t.sort e)
opens-form w b k inner (turn h f) good t e = opens-form w b k inner f good t e
opens-form w b k inner (maybe f) good t e = opens-form w b k inner f good t e
opens-form w b k inner (many f) good t e = let q = opens-form w b k inner f good t e in (q.0, ([], t ∷ [], [], refl, refl, q.1))
opens-form w b k inner (either f g) good t e =
    let p = both (guarded k f) (guarded k g) good in
    ⊎_elim (λ z. let q = opens-form w b k inner f p.0 t z in (q.0, inl q.1)) (λ z. let q = opens-form w b k inner g p.1 t z in (q.0, inr q.1))
    (one_or (has (first f) t.sort) (has (first g) t.sort) (sym (has-append (first f) (first g) t.sort) ∙ e))
opens-form w b k inner (seen h f) good t e = opens-form w b k inner f good t e
opens-form w b k inner (nest m) good t e = let p = inner m (rank-below m k good) t e in (opened m p.0, inr (t, [], p.0, refl, refl, p.1))
opens-form w b k inner (over opens) good t e = (0, (refl, inl (skip-opened opens t e)))
opens-form w b k inner (attempt f g) good t e =
    let p = both (guarded k f) (guarded k g) good in
    ⊎_elim (λ z. let q = opens-form w b k inner f p.0 t z in (q.0, inl q.1)) (λ z. let q = opens-form w b k inner g p.1 t z in (q.0, inr q.1))
    (one_or (has (first f) t.sort) (has (first g) t.sort) (sym (has-append (first f) (first g) t.sort) ∙ e))
