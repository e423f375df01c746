-- One symbol that is read, and what is read behind it, leave fewer symbols.
use Rattle.std.proofs.Common.{◌≡◌, ℕ, arith, ◌<◌, ◌≤◌, Bool, true, false, cond, List, [], ◌∷◌, length, refl, ap}
use Rattle.decl_grammar.specs.declared.symbol.Symbol.{Symbol}
use Rattle.decl_grammar.specs.Reading.{Outcome, done, fault, deep, ◌>>=◌, one_at, has}
use Rattle.decl_grammar.proofs.Nests.{fewer}

-- what was read behind a symbol
abbrev pub behind_symbol : {B : Type 0} → Symbol × B → B
behind_symbol x = x.1

pub one-smaller : (ks : List ℕ) (ts : List Symbol) (t : Symbol) (rest : List Symbol) → one_at ks ts ≡ done t rest → length rest < length ts
unfolding one_at
one-smaller ks [] t rest e = absurd cc
one-smaller ks (u ∷ ts) t rest e = go (has ks u.sort) e
  where
    go : (c : Bool) → cond c (done u ts) (fault (u ∷ ts)) ≡ done t rest → length rest < length (u ∷ ts)
    go true z = let y : ts ≡ rest = cc in omega (arith, ap (λ (x : List Symbol). length x) y)
    go false z = absurd cc

-- one symbol, and what was read behind it
pub bind-smaller : {B : Type 0} (ks : List ℕ) (ts : List Symbol) (k : Symbol → List Symbol → Outcome B) (x : B) (rest : List Symbol) → ((t : Symbol) (b : List Symbol) → k t b ≡ done x rest → length rest ≤ length b) → (one_at ks ts >>= k) ≡ done x rest → length rest < length ts
bind-smaller {B} ks ts k x rest h e = go (one_at ks ts) refl e
  where
    go : (o : Outcome Symbol) → one_at ks ts ≡ o → (o >>= k) ≡ done x rest → length rest < length ts
    go (done t b) z y = omega (arith, h t b y, one-smaller ks ts t b z)
    go (fault at) z y = absurd cc
    go (deep at) z y = absurd cc

pub same-left : {B : Type 0} (y x : B) (b rest : List Symbol) → done y b ≡ done x rest → length rest ≤ length b
same-left y x b rest e = let z : b ≡ rest = cc in omega (arith, ap (λ (u : List Symbol). length u) z)
