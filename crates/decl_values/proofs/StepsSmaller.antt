-- What stands behind an item of a row, once read, leaves fewer symbols.
use Rattle.std.proofs.Common.{◌≡◌, ℕ, arith, ◌<◌, ◌≤◌, Bool, true, false, cond, Option, Some, None, List, [], ◌∷◌, length, refl}
use Rattle.apt_base.specs.declared.around.Around.{Around}
use Rattle.decl_grammar.specs.declared.symbol.Symbol.{Symbol}
use Rattle.decl_grammar.specs.declared.written.NameAt.{NameAt}
use Rattle.decl_grammar.specs.Reading.{starts, Outcome, done, fault, deep, ◌>>=◌, one_at}
use Rattle.decl_grammar.specs.Form.{many}
use Rattle.decl_grammar.specs.Types.{name, name_at, dim}
use Rattle.decl_grammar.specs.Rule.{reads}
use Rattle.decl_grammar.proofs.Nests.{fewer}
use Rattle.decl_values.specs.Ends.{listed_step, paired_step, declared_step}
use Rattle.decl_names.proofs.Smaller.{bind-smaller, same-left}

pub listed-smaller : (ts : List Symbol) (x : Bool) (rest : List Symbol) → listed_step ts ≡ done x rest → length rest < length ts
listed-smaller ts x rest e = go (starts (64 ∷ []) ts) e
  where
    inner : (b : List Symbol) (c : Bool) → cond c (one_at (64 ∷ []) b >>= λ z after. done false after) (done true b) ≡ done x rest → length rest ≤ length b
    inner b true e = let lt : length rest < length b = bind-smaller (64 ∷ []) b (λ z after. done false after) x rest (λ t a y. same-left false x a rest y) e in omega arith
    inner b false e = same-left true x b rest e

    go : (c : Bool) → cond c (one_at (64 ∷ []) ts >>= λ s after. done false after) (one_at (68 ∷ []) ts >>= λ s b. cond (starts (64 ∷ []) b) (one_at (64 ∷ []) b >>= λ z after. done false after) (done true b)) ≡ done x rest → length rest < length ts
    go true e = bind-smaller (64 ∷ []) ts (λ s after. done false after) x rest (λ t a y. same-left false x a rest y) e
    go false e = bind-smaller (68 ∷ []) ts (λ s b. cond (starts (64 ∷ []) b) (one_at (64 ∷ []) b >>= λ z after. done false after) (done true b)) x rest (λ t b y. inner b (starts (64 ∷ []) b) y) e

pub paired-smaller : (room : ℕ) (ts : List Symbol) (x : Option (List ℕ)) (rest : List Symbol) → paired_step room ts ≡ done x rest → length rest < length ts
paired-smaller room ts x rest e = go (starts (62 ∷ []) ts) e
  where
    named : (b : List Symbol) (o : Outcome (List ℕ)) → reads room name b ≡ o → (o >>= λ n a. one_at (73 ∷ []) a >>= λ z d. done (Some n) d) ≡ done x rest → length rest ≤ length b
    named b (done n a) z y =
        let lt : length rest < length a = bind-smaller (73 ∷ []) a (λ z d. done (Some n) d) x rest (λ t d w. same-left (Some n) x d rest w) y in
        omega (arith, lt, fewer room name b n a z)
    named b (fault at) z y = absurd cc
    named b (deep at) z y = absurd cc

    go : (c : Bool) → cond c (one_at (62 ∷ []) ts >>= λ s after. done None after) (one_at (68 ∷ []) ts >>= λ s b. reads room name b >>= λ n a. one_at (73 ∷ []) a >>= λ z d. done (Some n) d) ≡ done x rest → length rest < length ts
    go true e = bind-smaller (62 ∷ []) ts (λ s after. done None after) x rest (λ t a y. same-left None x a rest y) e
    go false e = bind-smaller (68 ∷ []) ts (λ s b. reads room name b >>= λ n a. one_at (73 ∷ []) a >>= λ z d. done (Some n) d) x rest (λ t b y. named b (reads room name b) refl y) e

pub declared-smaller : (room : ℕ) (ts : List Symbol) (x : Option (NameAt × List Around)) (rest : List Symbol) → declared_step room ts ≡ done x rest → length rest < length ts
declared-smaller room ts x rest e = go (starts (67 ∷ []) ts) e
  where
    dimmed : (n : NameAt) (b : List Symbol) (o : Outcome (List Around)) → reads room (many dim) b ≡ o → (o >>= λ ds a. done (Some (n, ds)) a) ≡ done x rest → length rest ≤ length b
    dimmed n b (done ds a) z y = omega (arith, same-left (Some (n, ds)) x a rest y, fewer room (many dim) b ds a z)
    dimmed n b (fault at) z y = absurd cc
    dimmed n b (deep at) z y = absurd cc

    named : (b : List Symbol) (o : Outcome NameAt) → reads room name_at b ≡ o → (o >>= λ n a. reads room (many dim) a >>= λ ds d. done (Some (n, ds)) d) ≡ done x rest → length rest ≤ length b
    named b (done n a) z y = omega (arith, dimmed n a (reads room (many dim) a) refl y, fewer room name_at b n a z)
    named b (fault at) z y = absurd cc
    named b (deep at) z y = absurd cc

    go : (c : Bool) → cond c (one_at (67 ∷ []) ts >>= λ s after. done None after) (one_at (68 ∷ []) ts >>= λ s b. reads room name_at b >>= λ n a. reads room (many dim) a >>= λ ds d. done (Some (n, ds)) d) ≡ done x rest → length rest < length ts
    go true e = bind-smaller (67 ∷ []) ts (λ s after. done None after) x rest (λ t a y. same-left None x a rest y) e
    go false e = bind-smaller (68 ∷ []) ts (λ s b. reads room name_at b >>= λ n a. reads room (many dim) a >>= λ ds d. done (Some (n, ds)) d) x rest (λ t b y. named b (reads room name_at b) refl y) e
