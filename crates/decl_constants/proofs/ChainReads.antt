-- What goes on behind a name in a constant form.
use Rattle.std.proofs.Common.{◌≡◌, Option, ℕ, arith, ◌<◌, ◌≤◌, Bool, true, false, cond, Some, None, List, [], ◌∷◌, length, refl, sym, ap, subst, ◌∙◌}
use Rattle.decl_grammar.specs.declared.symbol.Symbol.{Symbol}
use Rattle.decl_grammar.specs.declared.fault.ReadFault.{ReadFault}
use Rattle.decl_grammar.specs.declared.fault.ReadFault.TheVariants as faults
use Rattle.decl_grammar.specs.Reading.{starts, Outcome, done, fault, deep, ◌>>=◌, one_at, Fails}
use Rattle.decl_grammar.specs.Form.{constant_chain, turned}
use Rattle.decl_grammar.specs.Types.{silently, name}
use Rattle.decl_grammar.specs.Expressions.{chain_form}
use Rattle.decl_grammar.specs.Rule.{read_nest, reads}
use Rattle.decl_grammar.proofs.Nests.{free-is, fewer}
use Rattle.decl_names.proofs.Smaller.{behind_symbol, bind-smaller, same-left}
use Rattle.decl_constants.specs.ConstantParts.{chain_firsts, chain_end, chain_step}

-- ---- behind a name

abbrev chain_behind : ℕ → Outcome Bool → Outcome (Unit {0})
chain_behind room (done true rest) = read_nest room constant_chain rest
chain_behind room (done false rest) = done tt rest
chain_behind room (fault at) = fault at
chain_behind room (deep at) = deep at

-- a name and what goes on behind it mean nothing here
abbrev silent : Outcome (List ℕ × Option (Unit {0})) → Outcome (Unit {0})
silent o = turned silently o

chain-is : (room : ℕ) (ts : List Symbol) → starts (69 ∷ []) ts ≡ true → read_nest room constant_chain ts ≡ chain_behind room (chain_step room ts)
unfolding chain_form
chain-is room ts s = free-is constant_chain refl room ts ∙ (rw s (comma (one_at (69 ∷ []) ts)))
  where
    closing : (t : Symbol) (o : Outcome Symbol) → turned behind_symbol (turned silently o >>= λ y a. done (t, y) a) ≡ chain_behind room (o >>= λ z after. done false after)
    closing t (done z after) = refl
    closing t (fault at) = refl
    closing t (deep at) = refl

    some : (t : Symbol) (n : List ℕ) (o : Outcome (Unit {0})) → turned behind_symbol (silent ((o >>= λ y a. done (Some y) a) >>= λ y a. done (n, y) a) >>= λ y a. done (t, y) a) ≡ o
    some t n (done y a) = refl
    some t n (fault at) = refl
    some t n (deep at) = refl

    further : (t : Symbol) (n : List ℕ) (rest : List Symbol) (c : Bool)
        → turned behind_symbol (silent (cond c (read_nest room constant_chain rest >>= λ y a. done (Some y) a) (done None rest) >>= λ y a. done (n, y) a) >>= λ y a. done (t, y) a) ≡ chain_behind room (done c rest)
    further t n rest true = some t n (read_nest room constant_chain rest)
    further t n rest false = refl

    named : (t : Symbol) (o : Outcome (List ℕ))
        → turned behind_symbol (silent (o >>= λ n b. cond (starts chain_firsts b) (read_nest room constant_chain b >>= λ y a. done (Some y) a) (done None b) >>= λ y a. done (n, y) a) >>= λ y a. done (t, y) a)
        ≡ chain_behind room (o >>= λ n after. done (starts chain_firsts after) after)
    named t (done n b) = further t n b (starts chain_firsts b)
    named t (fault at) = refl
    named t (deep at) = refl

    inner : (t : Symbol) (rest : List Symbol) (c : Bool)
        → turned behind_symbol (cond c (turned silently (one_at (18 ∷ []) rest)) (silent (reads room name rest >>= λ n b. cond (starts chain_firsts b) (read_nest room constant_chain b >>= λ y a. done (Some y) a) (done None b) >>= λ y a. done (n, y) a)) >>= λ y a. done (t, y) a)
        ≡ chain_behind room (cond c (one_at (18 ∷ []) rest >>= λ z after. done false after) (reads room name rest >>= λ n after. done (starts chain_firsts after) after))
    inner t rest true = closing t (one_at (18 ∷ []) rest)
    inner t rest false = named t (reads room name rest)

    comma : (o : Outcome Symbol)
        → turned behind_symbol (o >>= λ t rest. cond (starts (18 ∷ []) rest) (turned silently (one_at (18 ∷ []) rest)) (silent (reads room name rest >>= λ n b. cond (starts chain_firsts b) (read_nest room constant_chain b >>= λ y a. done (Some y) a) (done None b) >>= λ y a. done (n, y) a)) >>= λ y a. done (t, y) a)
        ≡ chain_behind room (o >>= λ t rest. cond (starts (18 ∷ []) rest) (one_at (18 ∷ []) rest >>= λ z after. done false after) (reads room name rest >>= λ n after. done (starts chain_firsts after) after))
    comma (done t rest) = inner t rest (starts (18 ∷ []) rest)
    comma (fault at) = refl
    comma (deep at) = refl

pub chain-goes : (room : ℕ) (ts rest : List Symbol) (more : Bool) (total : Outcome (Unit {0})) → starts (69 ∷ []) ts ≡ true → chain_step room ts ≡ done more rest → more ≡ true → read_nest room constant_chain ts ≡ total → read_nest room constant_chain rest ≡ total
chain-goes room ts rest more total s e m so_far = sym (chain-is room ts s ∙ (ap (chain_behind room) e ∙ ap (λ (c : Bool). chain_behind room (done c rest)) m)) ∙ so_far

pub chain-stops : (room : ℕ) (ts rest : List Symbol) (more : Bool) (total : Outcome (Unit {0})) → starts (69 ∷ []) ts ≡ true → chain_step room ts ≡ done more rest → more ≡ false → read_nest room constant_chain ts ≡ total → total ≡ done tt rest
chain-stops room ts rest more total s e m so_far = sym so_far ∙ (chain-is room ts s ∙ (ap (chain_behind room) e ∙ ap (λ (c : Bool). chain_behind room (done c rest)) m))

chain-behind-fails : (room : ℕ) (e : ReadFault) (o : Outcome Bool) → Fails e o → Fails e (chain_behind room o)
chain-behind-fails room faults.Memory o f = tt
chain-behind-fails room (faults.Bad n) o f = (f.0, ap (chain_behind room) f.1, f.2)
chain-behind-fails room (faults.Deep n) o f = (f.0, ap (chain_behind room) f.1, f.2)

pub chain-fails : (room : ℕ) (ts : List Symbol) (e : ReadFault) (total : Outcome (Unit {0})) → starts (69 ∷ []) ts ≡ true → Fails e (chain_step room ts) → read_nest room constant_chain ts ≡ total → Fails e total
chain-fails room ts e total s f so_far = subst (λ (o : Outcome (Unit {0})). Fails e o) (sym (chain-is room ts s) ∙ so_far) (chain-behind-fails room e (chain_step room ts) f)

-- it leaves fewer symbols
pub chain-smaller : (room : ℕ) (ts : List Symbol) (more : Bool) (rest : List Symbol) → chain_step room ts ≡ done more rest → length rest < length ts
chain-smaller room ts more rest e =
    bind-smaller (69 ∷ []) ts (λ s b. cond (starts (18 ∷ []) b) (one_at (18 ∷ []) b >>= λ z after. done false after) (reads room name b >>= λ n after. done (starts chain_firsts after) after)) more rest (λ t b y. inner b (starts (18 ∷ []) b) y) e
  where
    named : (b : List Symbol) (o : Outcome (List ℕ)) → reads room name b ≡ o → (o >>= λ n after. done (starts chain_firsts after) after) ≡ done more rest → length rest ≤ length b
    named b (done n a) z y = omega (arith, same-left (starts chain_firsts a) more a rest y, fewer room name b n a z)
    named b (fault at) z y = absurd cc
    named b (deep at) z y = absurd cc

    inner : (b : List Symbol) (c : Bool) → cond c (one_at (18 ∷ []) b >>= λ z after. done false after) (reads room name b >>= λ n after. done (starts chain_firsts after) after) ≡ done more rest → length rest ≤ length b
    inner b true y = let lt : length rest < length b = bind-smaller (18 ∷ []) b (λ z after. done false after) more rest (λ t a x. same-left false more a rest x) y in omega arith
    inner b false y = named b (reads room name b) refl y

-- no further name: it ends
pub chain-over : (room : ℕ) (ts : List Symbol) → starts (69 ∷ []) ts ≡ false → read_nest room constant_chain ts ≡ reads room chain_end ts
unfolding chain_form chain_end
chain-over room ts s = free-is constant_chain refl room ts ∙ rw s refl
