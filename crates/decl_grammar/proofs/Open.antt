-- How much may be open in symbols that begin a form: three forms that hold themselves for each symbol at most.
use Rattle.std.proofs.Common.{◌≡◌, ℕ, suc, ◌+◌, ◌*◌, ◌≤◌, Bool, true, false, cond, List, [], ◌∷◌, ◌++◌, length, refl, sym, ap, subst, ◌∙◌, length-append, arith, inl, inr}
use Rattle.std.specs.Prelude.{◌||◌}
use Rattle.decl_grammar.specs.declared.symbol.Symbol.{Symbol}
use Rattle.decl_grammar.specs.Form.{Nest, Form, terminal, pair, turn, maybe, many, either, nest, over, seen, attempt, counts, opened, nullable, Wholes, Begun, Is, Begins}
use Rattle.decl_grammar.proofs.OneToken.{no, both, rank, rank-below, guarded, any-guarded}
use Rattle.decl_grammar.proofs.Heads.{Full, Is-nil, nil-open}

opened-most : (m : Nest) (k : ℕ) → opened m k ≤ suc k
opened-most m k = go (counts m)
  where
    go : (c : Bool) → cond c (suc k) k ≤ suc k
    go true = omega arith
    go false = omega arith

-- at most this many are open in what begins a form that holds itself
abbrev pub Most : Begun → Type 0
Most b = (m : Nest) (t : Symbol) (us : List Symbol) (k : ℕ) → b m (t ∷ us) k → k ≤ 3 * length us + rank m

-- the part that is begun, where a part before it has symbols or may have none
behind-most : (w : Wholes) (b : Begun) → Full w → {A B : Type 0} (f : Form A) (g : Form B) (k : ℕ) (us a c : List Symbol) (t : Symbol) (x : A) (n : ℕ) → t ∷ us ≡ a ++ c → (nullable f ≡ true → guarded k g ≡ true) → Is w f a x → Begins w b g c n
    → ((j : ℕ) → guarded j g ≡ true → (u : Symbol) (vs : List Symbol) → c ≡ u ∷ vs → n ≤ 3 * length vs + j) → n ≤ 3 * length us + k
behind-most w b full f g k us a [] t x n e first is begins h = omega (arith, nil-open w b g [] n refl begins)
behind-most w b full f g k us [] (u ∷ vs) t x n e first is begins h = omega (arith, h k (first (Is-nil w full f [] x refl is)) u vs refl, ap length e)
behind-most w b full f g k us (s ∷ a) (u ∷ vs) t x n e first is begins h = omega (arith, h 3 (any-guarded g) u vs refl, ap length e, length-append a (u ∷ vs))

second_of : (c d : Bool) → (no c || d) ≡ true → c ≡ true → d ≡ true
second_of true d e z = e
second_of false d e z = absurd cc

pub open-most : (w : Wholes) (b : Begun) → Full w → Most b → (k : ℕ) {A : Type 0} (f : Form A) → guarded k f ≡ true → (t : Symbol) (us ts : List Symbol) (n : ℕ) → ts ≡ t ∷ us → Begins w b f ts n → n ≤ 3 * length us + k
open-most w b full most k (terminal ks) good t us ts n z p = omega (arith, p.0)
open-most w b full most k (pair f g) good t us ts n z (inl p) = open-most w b full most k f (both (guarded k f) (no (nullable f) || guarded k g) good).0 t us ts n z p
open-most w b full most k (pair f g) good t us ts n z (inr q) =
    behind-most w b full f g k us q.0 q.1 t q.2 n (sym z ∙ q.3) (second_of (nullable f) (guarded k g) (both (guarded k f) (no (nullable f) || guarded k g) good).1) q.4 q.5
    (λ j e u vs c. open-most w b full most j g e u vs q.1 n c q.5)
open-most w b full most k (turn h f) good t us ts n z p = open-most w b full most k f good t us ts n z p
open-most w b full most k (maybe f) good t us ts n z p = open-most w b full most k f good t us ts n z p
open-most w b full most k (many f) good t us ts n z q =
    behind-most w b full (many f) f k us q.0 q.1 t q.2 n (sym z ∙ q.3) (λ e. good) q.4 q.5
    (λ j e u vs c. open-most w b full most j f e u vs q.1 n c q.5)
open-most w b full most k (either f g) good t us ts n z (inl p) = open-most w b full most k f (both (guarded k f) (guarded k g) good).0 t us ts n z p
open-most w b full most k (either f g) good t us ts n z (inr p) = open-most w b full most k g (both (guarded k f) (guarded k g) good).1 t us ts n z p
open-most w b full most k (seen h f) good t us ts n z p = open-most w b full most k f good t us ts n z p
open-most w b full most k (nest m) good t us ts n z (inl p) = absurd cc
open-most w b full most k (nest m) good t us ts n z (inr q) =
    let same : length us ≡ length q.1 = omega (arith, ap length z, ap length q.3) in
    let lt = rank-below m k good in
    let k' = most m q.0 q.1 q.2 (subst (λ (u : List Symbol). b m u q.2) q.3 q.5) in
    omega (arith, same, lt, k', opened-most m q.2, q.4)
open-most w b full most k (over opens) good t us ts n z p = omega (arith, p.0)
open-most w b full most k (attempt f g) good t us ts n z (inl p) = open-most w b full most k f (both (guarded k f) (guarded k g) good).0 t us ts n z p
open-most w b full most k (attempt f g) good t us ts n z (inr p) = open-most w b full most k g (both (guarded k f) (guarded k g) good).1 t us ts n z p

-- in any form
pub most-open : (w : Wholes) (b : Begun) → Full w → Most b → {A : Type 0} (f : Form A) (ts : List Symbol) (n : ℕ) → Begins w b f ts n → n ≤ 3 * length ts
most-open w b full most f [] n p = omega (arith, nil-open w b f [] n refl p)
most-open w b full most f (t ∷ us) n p = omega (arith, open-most w b full most 3 f (any-guarded f) t us (t ∷ us) n refl p)
