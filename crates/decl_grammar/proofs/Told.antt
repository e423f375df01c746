-- What reading tells: what is read is the form, the tokens before a fault begin it, and where it is too deep the tokens up to
-- there begin it with more open forms than are allowed.
use Rattle.std.specs.Prelude.{take, nat_le}
use Rattle.std.proofs.Common.{◌-◌, length-append, arith, ◌≡◌, ℕ, zero, suc, ◌<◌, Bool, true, false, cond, List, [], ◌∷◌, ◌++◌, length, Option, Some, None, refl, sym, ap, ◌∙◌, append_assoc, inl, inr}
use Rattle.std.specs.Option.{option_map_or}
use Rattle.decl_grammar.specs.declared.symbol.Symbol.{Symbol}
use Rattle.decl_grammar.specs.Reading.{starts, Outcome, done, fault, deep, ◌>>=◌, one_at, after, pass, has, skip, read_of}
use Rattle.decl_grammar.specs.Form.{Nest, Form, terminal, pair, turn, maybe, many, either, nest, over, seen, attempt, first, Wholes, Begun, Readers, Is, Begins, repeat, attempted, read}

-- two parts in front of a rest
pub parts : {A : Type 0} (ts us rest vs after : List A) → ts ≡ us ++ rest → rest ≡ vs ++ after → ts ≡ (us ++ vs) ++ after
parts {A} ts us rest vs after p q = p ∙ ap (λ (x : List A). us ++ x) q ∙ sym (append_assoc us vs after)

abbrev pub Told : ℕ → Wholes → Begun → {A : Type 0} → Form A → List Symbol → Outcome A → Type 0
Told room w b f ts (done x rest) = (us : List Symbol) × (ts ≡ us ++ rest) × Is w f us x
Told room w b f ts (fault at) = (us : List Symbol) × (ts ≡ us ++ at) × (n : ℕ) × Begins w b f us n
Told room w b f ts (deep at) = (us : List Symbol) × (t : Symbol) × (vs : List Symbol) × (at ≡ t ∷ vs) × (ts ≡ us ++ t ∷ vs) × (n : ℕ) × (room < n) × Begins w b f (us ++ t ∷ []) n

told-word : (room : ℕ) (w : Wholes) (b : Begun) (k : List ℕ) (ts : List Symbol) → Told room w b (terminal k) ts (one_at k ts)
unfolding one_at
told-word room w b k [] = ([], refl, 0, (refl, inl refl))
told-word room w b k (t ∷ ts) = go (has k t.sort) refl
  where
    go : (c : Bool) → has k t.sort ≡ c → Told room w b (terminal k) (t ∷ ts) (cond c (done t ts) (fault (t ∷ ts)))
    go true e = (t ∷ [], refl, (refl, e))
    go false e = ([], refl, 0, (refl, inl refl))

-- ---- what is passed over

abbrev pub PassTold : List ℕ → List Symbol → Outcome (Unit {0}) → Type 0
PassTold ks ts (done x rest) = (us : List Symbol) × (ts ≡ us ++ rest) × (pass ks us ≡ done tt [])
PassTold ks ts (fault at) = (us : List Symbol) × (ts ≡ us ++ at) × (pass ks us ≡ fault [])
PassTold ks ts (deep at) = ⊥

pub pass-told : (ks : List ℕ) (ts : List Symbol) → PassTold ks ts (pass ks ts)
unfolding pass
pass-told [] ts = ([], refl, refl)
pass-told (k ∷ ks) [] = ([], refl, refl)
pass-told (k ∷ ks) (t ∷ ts) = go (after k ks t) refl (λ next. pass-told next ts)
  where
    step : (o : Outcome (Unit {0})) (next : List ℕ) → after k ks t ≡ Some next → PassTold next ts o → PassTold (k ∷ ks) (t ∷ ts) o
    step (done x rest) next e h = (t ∷ h.0, ap (λ (us : List Symbol). t ∷ us) h.1, rw e h.2)
    step (fault at) next e h = (t ∷ h.0, ap (λ (us : List Symbol). t ∷ us) h.1, rw e h.2)
    step (deep at) next e h = h

    go : (o : Option (List ℕ)) → after k ks t ≡ o → ((next : List ℕ) → PassTold next ts (pass next ts)) → PassTold (k ∷ ks) (t ∷ ts) (option_map_or (λ next. pass next ts) o (fault (t ∷ ts)))
    go None e h = ([], refl, refl)
    go (Some next) e h = step (pass next ts) next e (h next)

told-over : (room : ℕ) (w : Wholes) (b : Begun) (opens : List ℕ) (ts : List Symbol) → Told room w b (over opens) ts (skip opens ts)
unfolding one_at
told-over room w b opens [] = ([], refl, 0, (refl, inl refl))
told-over room w b opens (t ∷ ts) = go (has opens t.sort) refl
  where
    step : has opens t.sort ≡ true → (o : Outcome (Unit {0})) → PassTold (suc t.sort ∷ []) ts o → Told room w b (over opens) (t ∷ ts) o
    step e (done x rest) h = (t ∷ h.0, ap (λ (us : List Symbol). t ∷ us) h.1, rw e h.2)
    step e (fault at) h = (t ∷ h.0, ap (λ (us : List Symbol). t ∷ us) h.1, 0, (refl, inl (rw e h.2)))
    step e (deep at) h = absurd h

    go : (c : Bool) → has opens t.sort ≡ c → Told room w b (over opens) (t ∷ ts) (cond c (done t ts) (fault (t ∷ ts)) >>= λ t rest. pass (suc t.sort ∷ []) rest)
    go true e = step e (pass (suc t.sort ∷ []) ts) (pass-told (suc t.sort ∷ []) ts)
    go false e = ([], refl, 0, (refl, inl refl))

-- ---- forms made of forms

told-pair : (room : ℕ) (w : Wholes) (b : Begun) {A B : Type 0} (f : Form A) (g : Form B) (ts : List Symbol) (two : List Symbol → Outcome B) → ((rest : List Symbol) → Told room w b g rest (two rest))
    → (o : Outcome A) → Told room w b f ts o → Told room w b (pair f g) ts (o >>= λ x rest. two rest >>= λ y after. done (x, y) after)
told-pair room w b {A} {B} f g ts two h (done x rest) p = go (two rest) (h rest)
  where
    go : (o : Outcome B) → Told room w b g rest o → Told room w b (pair f g) ts (o >>= λ y after. done (x, y) after)
    go (done y after) q = (p.0 ++ q.0, parts ts p.0 rest q.0 after p.1 q.1, (p.0, q.0, refl, p.2, q.2))
    go (fault at) q = (p.0 ++ q.0, parts ts p.0 rest q.0 at p.1 q.1, q.2, inr (p.0, q.0, x, refl, p.2, q.3))
    go (deep at) q = (p.0 ++ q.0, q.1, q.2, q.3, parts ts p.0 rest q.0 (q.1 ∷ q.2) p.1 q.4, q.5, q.6, inr (p.0, q.0 ++ q.1 ∷ [], x, append_assoc p.0 q.0 (q.1 ∷ []), p.2, q.7))
told-pair room w b f g ts two h (fault at) p = (p.0, p.1, p.2, inl p.3)
told-pair room w b f g ts two h (deep at) p = (p.0, p.1, p.2, p.3, p.4, p.5, p.6, inl p.7)

told-turn : (room : ℕ) (w : Wholes) (b : Begun) {A B : Type 0} (k : A → B) (f : Form A) (ts : List Symbol) (o : Outcome A) → Told room w b f ts o → Told room w b (turn k f) ts (o >>= λ x rest. done (k x) rest)
told-turn room w b k f ts (done x rest) p = (p.0, p.1, (x, p.2, refl))
told-turn room w b k f ts (fault at) p = p
told-turn room w b k f ts (deep at) p = p

-- the symbols in front of a rest are those that were read
take-front : (us rest : List Symbol) → take (length us) (us ++ rest) ≡ us
take-front [] rest = refl
take-front (u ∷ us) rest = ap (λ (x : List Symbol). u ∷ x) (take-front us rest)

pub read_of-front : (ts us rest : List Symbol) → ts ≡ us ++ rest → read_of ts rest ≡ us
read_of-front ts us rest e =
    let n : length ts - length rest ≡ length us = omega (arith, ap length e, length-append us rest) in
    ap (λ (k : ℕ). take k ts) n ∙ ap (take (length us)) e ∙ take-front us rest

told-seen : (room : ℕ) (w : Wholes) (b : Begun) {A B : Type 0} (k : List Symbol → B) (f : Form A) (ts : List Symbol) (o : Outcome A) → Told room w b f ts o → Told room w b (seen k f) ts (o >>= λ x rest. done (k (read_of ts rest), x) rest)
told-seen room w b k f ts (done x rest) p = (p.0, p.1, (p.2, ap k (read_of-front ts p.0 rest p.1)))
told-seen room w b k f ts (fault at) p = p
told-seen room w b k f ts (deep at) p = p

told-maybe : (room : ℕ) (w : Wholes) (b : Begun) {A : Type 0} (f : Form A) (ts : List Symbol) (o : Outcome A) → Told room w b f ts o → (c : Bool) → Told room w b (maybe f) ts (cond c (o >>= λ x rest. done (Some x) rest) (done None ts))
told-maybe room w b f ts o p false = ([], refl, refl)
told-maybe room w b f ts (done x rest) p true = p
told-maybe room w b f ts (fault at) p true = p
told-maybe room w b f ts (deep at) p true = p

told-either : (room : ℕ) (w : Wholes) (b : Begun) {A : Type 0} (f g : Form A) (ts : List Symbol) (o q : Outcome A) → Told room w b f ts o → Told room w b g ts q → (c : Bool) → Told room w b (either f g) ts (cond c o q)
told-either room w b f g ts (done x rest) q h k true = (h.0, h.1, inl h.2)
told-either room w b f g ts (fault at) q h k true = (h.0, h.1, h.2, inl h.3)
told-either room w b f g ts (deep at) q h k true = (h.0, h.1, h.2, h.3, h.4, h.5, h.6, inl h.7)
told-either room w b f g ts o (done x rest) h k false = (k.0, k.1, inr k.2)
told-either room w b f g ts o (fault at) h k false = (k.0, k.1, k.2, inr k.3)
told-either room w b f g ts o (deep at) h k false = (k.0, k.1, k.2, k.3, k.4, k.5, k.6, inr k.7)

told-attempt : (room : ℕ) (w : Wholes) (b : Begun) {A : Type 0} (f g : Form A) (ts : List Symbol) (o q : Outcome A) → Told room w b f ts o → Told room w b g ts q → Told room w b (attempt f g) ts (attempted o q)
told-attempt room w b f g ts (done x rest) q h k = (h.0, h.1, inl h.2)
told-attempt room w b f g ts (fault at) (done x rest) h k = (k.0, k.1, inr k.2)
told-attempt room w b f g ts (fault at) (fault to) h k = go (nat_le (length at) (length to))
  where
    go : (c : Bool) → Told room w b (attempt f g) ts (fault (cond c at to))
    go true = (h.0, h.1, h.2, inl h.3)
    go false = (k.0, k.1, k.2, inr k.3)
told-attempt room w b f g ts (fault at) (deep to) h k = (k.0, k.1, k.2, k.3, k.4, k.5, k.6, inr k.7)
told-attempt room w b f g ts (deep at) q h k = (h.0, h.1, h.2, h.3, h.4, h.5, h.6, inl h.7)

-- one part and then a row
told-next : (room : ℕ) (w : Wholes) (b : Begun) {A : Type 0} (f : Form A) (ts : List Symbol) (row : List Symbol → Outcome (List A)) → ((rest : List Symbol) → Told room w b (many f) rest (row rest))
    → (o : Outcome A) → Told room w b f ts o → Told room w b (many f) ts (o >>= λ x rest. row rest >>= λ xs after. done (x ∷ xs) after)
told-next room w b {A} f ts row h (done x rest) p = go (row rest) (h rest)
  where
    go : (o : Outcome (List A)) → Told room w b (many f) rest o → Told room w b (many f) ts (o >>= λ xs after. done (x ∷ xs) after)
    go (done xs after) q = (p.0 ++ q.0, parts ts p.0 rest q.0 after p.1 q.1, (p.0, q.0, refl, p.2, q.2))
    go (fault at) q =
        let s = q.3 in
        (p.0 ++ q.0, parts ts p.0 rest q.0 at p.1 q.1, q.2, (p.0 ++ s.0, s.1, x ∷ s.2, parts (p.0 ++ q.0) p.0 q.0 s.0 s.1 refl s.3, (p.0, s.0, refl, p.2, s.4), s.5))
    go (deep at) q =
        let s = q.7 in
        (p.0 ++ q.0, q.1, q.2, q.3, parts ts p.0 rest q.0 (q.1 ∷ q.2) p.1 q.4, q.5, q.6, (p.0 ++ s.0, s.1, x ∷ s.2, parts ((p.0 ++ q.0) ++ q.1 ∷ []) p.0 (q.0 ++ q.1 ∷ []) s.0 s.1 (append_assoc p.0 q.0 (q.1 ∷ [])) s.3, (p.0, s.0, refl, p.2, s.4), s.5))
told-next room w b f ts row h (fault at) p = (p.0, p.1, p.2, ([], p.0, [], refl, refl, p.3))
told-next room w b f ts row h (deep at) p = (p.0, p.1, p.2, p.3, p.4, p.5, p.6, ([], p.0 ++ p.1 ∷ [], [], refl, refl, p.7))

told-choice : {A : Type 0} (P : Outcome A → Type 0) (c : Bool) (p q : Outcome A) → P p → P q → P (cond c p q)
told-choice P true p q h k = h
told-choice P false p q h k = k

told-repeat : (room : ℕ) (w : Wholes) (b : Begun) {A : Type 0} (f : Form A) (next : List Symbol → Bool) (one : List Symbol → Outcome A) → ((ts : List Symbol) → Told room w b f ts (one ts))
    → (n : ℕ) (ts : List Symbol) → Told room w b (many f) ts (repeat next one n ts)
told-repeat room w b f next one h zero ts = ([], refl, refl)
told-repeat room w b {A} f next one h (suc n) ts =
    told-choice (Told room w b (many f) ts) (next ts) (one ts >>= λ x rest. repeat next one n rest >>= λ xs after. done (x ∷ xs) after) (done [] ts)
    (told-next room w b f ts (repeat next one n) (told-repeat room w b f next one h n) (one ts) (h ts))
    ([], refl, refl)

-- each form tells
pub told : (room : ℕ) (w : Wholes) (b : Begun) (r : Readers) → ((m : Nest) (ts : List Symbol) → Told room w b (nest m) ts (r m ts))
    → {A : Type 0} (f : Form A) (ts : List Symbol) → Told room w b f ts (read r f ts)
told room w b r h (terminal k) ts = told-word room w b k ts
told room w b r h (pair f g) ts = told-pair room w b f g ts (read r g) (told room w b r h g) (read r f ts) (told room w b r h f ts)
told room w b r h (turn k f) ts = told-turn room w b k f ts (read r f ts) (told room w b r h f ts)
told room w b r h (seen k f) ts = told-seen room w b k f ts (read r f ts) (told room w b r h f ts)
told room w b r h (maybe f) ts = told-maybe room w b f ts (read r f ts) (told room w b r h f ts) (starts (first f) ts)
told room w b r h (many f) ts = told-repeat room w b f (starts (first f)) (read r f) (told room w b r h f) (length ts) ts
told room w b r h (either f g) ts = told-either room w b f g ts (read r f ts) (read r g ts) (told room w b r h f ts) (told room w b r h g ts) (starts (first f) ts)
told room w b r h (nest m) ts = h m ts
told room w b r h (over opens) ts = told-over room w b opens ts
told room w b r h (attempt f g) ts = told-attempt room w b f g ts (read r f ts) (read r g ts) (told room w b r h f ts) (told room w b r h g ts)
