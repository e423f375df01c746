-- What comes of two readings.
use Rattle.std.proofs.Common.{◌≡◌, ℕ, ◌<◌, ◌≤◌, Bool, true, false, cond, List, [], ◌∷◌, ◌++◌, ◌⊎◌, Option, length, refl, sym, ap, subst, ◌∙◌, append_assoc, length-append, arith, inl, inr, ⊎_elim}
use Rattle.std.specs.Prelude.{nat_le}
use Rattle.std.proofs.lemmas.List.{append-nil, nil_from_length}
use Rattle.decl_grammar.specs.declared.symbol.Symbol.{Symbol}
use Rattle.decl_grammar.specs.Reading.{Outcome, done, fault, deep, left}
use Rattle.decl_grammar.specs.Form.{Nest, Form, nest, Wholes, Begun, Readers, Is, Begins, attempted, further_of}
use Rattle.decl_grammar.proofs.Heads.{Full, WholeBegins, Is-begins}
use Rattle.decl_grammar.proofs.Told.{Told}
use Rattle.decl_grammar.proofs.Fronts.{cuts, NestFronts, Begins-front}
use Rattle.decl_grammar.proofs.Rivals.{Rivals, Upto, Sole, sole-up, Is-up, Begins-up}

-- of two places the further one is before neither
pub further-less : (at to : List Symbol) → (length (further_of at to) ≤ length at) × (length (further_of at to) ≤ length to)
further-less at to = go (nat_le (length at) (length to)) refl
  where
    go : (c : Bool) → nat_le (length at) (length to) ≡ c → (length (cond c at to) ≤ length at) × (length (cond c at to) ≤ length to)
    go true e = (omega arith, grind arith)
    go false e = (grind arith, omega arith)

pub left-attempt : {A : Type 0} (o q : Outcome A) (n : ℕ) → length (left o) ≤ n → length (left q) ≤ n → length (left (attempted o q)) ≤ n
left-attempt (done x rest) q n h k = h
left-attempt (fault at) (done x rest) n h k = k
left-attempt (fault at) (fault to) n h k = omega (arith, (further-less at to).0, h)
left-attempt (fault at) (deep to) n h k = k
left-attempt (deep at) q n h k = h

-- where no more is left, these are the first ones
pub reached : (ts rest us at : List Symbol) → ts ++ rest ≡ us ++ at → length at ≤ length rest → (d : List Symbol) × (us ≡ ts ++ d)
reached ts rest us at e le =
    ⊎_elim
    (λ (p : (d : List Symbol) × (us ≡ ts ++ d) × (rest ≡ d ++ at)). (p.0, p.1))
    (λ (p : (d : List Symbol) × (ts ≡ us ++ d) × (at ≡ d ++ rest)).
    let z : p.0 ≡ [] = nil_from_length p.0 (omega (arith, le, ap length p.2, length-append p.0 rest)) in
    ([], sym (append-nil us) ∙ sym (p.1 ∙ ap (λ (u : List Symbol). us ++ u) z) ∙ sym (append-nil ts)))
    (cuts ts rest us at e)

-- what is read goes through symbols in front of this rest with this many open, unless it is too deep there
abbrev pub Passes : ℕ → ℕ → List Symbol → {A : Type 0} → Outcome A → Type 0
Passes room n rest o = ((length (left o) ≤ length rest) × (n ≤ room)) ⊎ ((at : List Symbol) × (o ≡ deep at) × (length rest < length at))

-- what is known of forms that hold themselves, and of their readers
pub record Known (room : ℕ) (w : Wholes) (b : Begun) (r : Readers) : Type 0 where
  pub full : Full w
  pub begins : WholeBegins w b
  pub fronts : NestFronts b
  pub told : (m : Nest) (ts : List Symbol) → Told room w b (nest m) ts (r m ts)

-- ---- the other reading is whole

-- what the first reading gives where the other one gives this value and this rest
abbrev pub Beside : {A : Type 0} → A → List Symbol → Outcome A → Type 0
Beside x rest (done y at) = (y ≡ x) × (at ≡ rest)
Beside x rest (fault at) = Unit {0}
Beside x rest (deep at) = length rest < length at

same_end : (ts us rest at d : List Symbol) → ts ++ rest ≡ us ++ at → us ≡ ts ++ d → d ≡ [] → (us ≡ ts) × (at ≡ rest)
same_end ts us rest at d e p z =
    let q : us ≡ ts = p ∙ ap (λ (u : List Symbol). ts ++ u) z ∙ append-nil ts in
    (q, cancel ts at rest (ap (λ (u : List Symbol). u ++ at) (sym q) ∙ sym e))
  where
    cancel : (us vs ws : List Symbol) → us ++ vs ≡ us ++ ws → vs ≡ ws
    cancel [] vs ws e = e
    cancel (u ∷ us) vs ws e = cancel us vs ws cc

not_empty : (d : List Symbol) (t : Symbol) → d ++ t ∷ [] ≡ [] → ⊥
not_empty [] t e = cc
not_empty (u ∷ d) t e = cc

pub beside : {A : Type 0} (room : ℕ) (w : Wholes) (b : Begun) (r : Readers) → Known room w b r → (f g : Form A) → Rivals w b f g → (l : Option ℕ) (ts rest : List Symbol) (x : A) → Is w g ts x → Is (Upto l) g ts x → (o : Outcome A) → Told room (Sole w (Upto l)) b f (ts ++ rest) o → Beside x rest o
beside {A} room w b r known f g rivals l ts rest x is low (done y at) told =
    let whole = Is-up (Sole w (Upto l)) w (sole-up w (Upto l)) f told.0 y told.2 in
    ⊎_elim
    (λ (p : (d : List Symbol) × (told.0 ≡ ts ++ d) × (rest ≡ d ++ at)).
    let begun = Is-begins w b known.full known.begins f told.0 y whole in
    let z = rivals.other_ends ts p.0 x begun.0 is (subst (λ (u : List Symbol). Begins w b f u begun.0) p.1 begun.1) in
    finish (same_end ts told.0 rest at p.0 told.1 p.1 z))
    (λ (p : (d : List Symbol) × (ts ≡ told.0 ++ d) × (at ≡ d ++ rest)).
    let begun = Is-begins w b known.full known.begins g ts x is in
    let z = rivals.first_ends told.0 p.0 y begun.0 whole (subst (λ (u : List Symbol). Begins w b g u begun.0) p.1 begun.1) in
    let q = same_end told.0 ts at rest p.0 (sym told.1) p.1 z in
    finish (sym q.0, sym q.1))
    (cuts ts rest told.0 at told.1)
  where
    finish : (told.0 ≡ ts) × (at ≡ rest) → (y ≡ x) × (at ≡ rest)
    finish q = (rivals.agree l ts y x (subst (λ (u : List Symbol). Is (Sole w (Upto l)) f u y) q.0 told.2) low, q.1)
beside room w b r known f g rivals l ts rest x is low (fault at) told = tt
beside room w b r known f g rivals l ts rest x is low (deep at) told =
    ⊎_elim
    (λ (p : (d : List Symbol) × (told.0 ≡ ts ++ d) × (rest ≡ d ++ told.1 ∷ told.2)).
    let whole : told.0 ++ told.1 ∷ [] ≡ ts ++ (p.0 ++ told.1 ∷ []) = ap (λ (u : List Symbol). u ++ told.1 ∷ []) p.1 ∙ append_assoc ts p.0 (told.1 ∷ []) in
    absurd (not_empty p.0 told.1 (rivals.other_ends ts (p.0 ++ told.1 ∷ []) x told.5 is (subst (λ (u : List Symbol). Begins w b f u told.5) whole begun))))
    (λ (p : (d : List Symbol) × (ts ≡ told.0 ++ d) × (told.1 ∷ told.2 ≡ d ++ rest)). longer p.0 p.1 p.2)
    (cuts ts rest told.0 (told.1 ∷ told.2) told.4)
  where
    begun : Begins w b f (told.0 ++ told.1 ∷ []) told.5
    begun = Begins-up (Sole w (Upto l)) w b b (sole-up w (Upto l)) (λ m us n p. p) f (told.0 ++ told.1 ∷ []) told.5 told.7

    longer : (d : List Symbol) → ts ≡ told.0 ++ d → told.1 ∷ told.2 ≡ d ++ rest → length rest < length at
    longer [] e s =
        let whole : told.0 ++ told.1 ∷ [] ≡ ts ++ told.1 ∷ [] = ap (λ (u : List Symbol). u ++ told.1 ∷ []) (sym (append-nil told.0) ∙ sym e) in
        absurd (not_empty [] told.1 (rivals.other_ends ts (told.1 ∷ []) x told.5 is (subst (λ (u : List Symbol). Begins w b f u told.5) whole begun)))
    longer (u ∷ d) e s = omega (arith, ap length told.3, ap length s, length-append d rest)

-- ---- what one of the readings begins is passed

pub passes-first-reading : {A : Type 0} (room n : ℕ) (w : Wholes) (b : Begun) (f g : Form A) → Rivals w b f g → (ts rest : List Symbol) → Begins w b f ts n → (o q : Outcome A) → Told room w b g (ts ++ rest) q → Passes room n rest o → Passes room n rest (attempted o q)
passes-first-reading room n w b f g rivals ts rest begins (done x at) q told p = p
passes-first-reading room n w b f g rivals ts rest begins (deep at) q told p = p
passes-first-reading room n w b f g rivals ts rest begins (fault at) q told (inr p) = absurd cc
passes-first-reading room n w b f g rivals ts rest begins (fault at) (done y to) told (inl p) =
    ⊎_elim
    (λ (c : (d : List Symbol) × (told.0 ≡ ts ++ d) × (rest ≡ d ++ to)). inl (omega (arith, ap length c.2, length-append c.0 to), p.1))
    (λ (c : (d : List Symbol) × (ts ≡ told.0 ++ d) × (to ≡ d ++ rest)).
    let z = rivals.other_ends told.0 c.0 y n told.2 (subst (λ (u : List Symbol). Begins w b f u n) c.1 begins) in
    inl (omega (arith, ap length c.2, length-append c.0 rest, ap length z), p.1))
    (cuts ts rest told.0 to told.1)
passes-first-reading room n w b f g rivals ts rest begins (fault at) (fault to) told (inl p) = inl (omega (arith, (further-less at to).0, p.0), p.1)
passes-first-reading {A} room n w b f g rivals ts rest begins (fault at) (deep to) told (inl p) = go (nat_le (length to) (length rest)) refl
  where
    go : (c : Bool) → nat_le (length to) (length rest) ≡ c → Passes room n rest {A = A} (deep to)
    go true e = inl (grind arith, p.1)
    go false e = inr (to, refl, grind arith)

-- what the other reading begins is open in the first one too, where that one gets as far
open-first : {A : Type 0} (room n : ℕ) (w : Wholes) (b : Begun) (r : Readers) → Known room w b r → (f g : Form A) → Rivals w b f g → (ts rest us : List Symbol) (j : ℕ) → Begins w b f us j → (d : List Symbol) × (us ≡ ts ++ d) → Begins w b g ts n
    → (o : Outcome A) → ((k : ℕ) → Begins w b f ts k → Passes room k rest o) → length (left o) ≤ length rest → n ≤ room
open-first {A} room n w b r known f g rivals ts rest us j begun d begins o passes le =
    let m = Begins-front w b known.full known.begins known.fronts f us ts d.0 j d.1 begun in
    let k = rivals.dominated ts m.0 n m.1 begins in
    ⊎_elim
    (λ (p : (length (left o) ≤ length rest) × (k.0 ≤ room)). omega (arith, k.1, p.1))
    (λ (p : (at : List Symbol) × (o ≡ deep at) × (length rest < length at)). absurd (omega (arith, le, p.2, ap (λ (z : Outcome A). length (left z)) p.1)))
    (passes k.0 k.2)

pub passes-other-reading : {A : Type 0} (room n : ℕ) (w : Wholes) (b : Begun) (r : Readers) → Known room w b r → (f g : Form A) → Rivals w b f g → (ts rest : List Symbol) → Begins w b g ts n
    → (o q : Outcome A) → Told room w b f (ts ++ rest) o → ((k : ℕ) → Begins w b f ts k → Passes room k rest o) → Passes room n rest q → Passes room n rest (attempted o q)
passes-other-reading room n w b r known f g rivals ts rest begins (fault at) (done x to) told passes p = p
passes-other-reading room n w b r known f g rivals ts rest begins (fault at) (fault to) told passes (inl p) = inl (omega (arith, (further-less at to).1, p.0), p.1)
passes-other-reading room n w b r known f g rivals ts rest begins (fault at) (fault to) told passes (inr p) = absurd cc
passes-other-reading room n w b r known f g rivals ts rest begins (fault at) (deep to) told passes p = p
passes-other-reading {A} room n w b r known f g rivals ts rest begins (done y at) q told passes p =
    let le : length at ≤ length rest = ⊎_elim
    (λ (c : (d : List Symbol) × (told.0 ≡ ts ++ d) × (rest ≡ d ++ at)). omega (arith, ap length c.2, length-append c.0 at))
    (λ (c : (d : List Symbol) × (ts ≡ told.0 ++ d) × (at ≡ d ++ rest)).
    let z = rivals.first_ends told.0 c.0 y n told.2 (subst (λ (u : List Symbol). Begins w b g u n) c.1 begins) in
    omega (arith, ap length c.2, length-append c.0 rest, ap length z))
    (cuts ts rest told.0 at told.1) in
    let begun = Is-begins w b known.full known.begins f told.0 y told.2 in
    inl (le, open-first room n w b r known f g rivals ts rest told.0 begun.0 begun.1 (reached ts rest told.0 at told.1 le) begins (done y at) passes le)
passes-other-reading {A} room n w b r known f g rivals ts rest begins (deep at) q told passes p = go (nat_le (length at) (length rest)) refl
  where
    go : (c : Bool) → nat_le (length at) (length rest) ≡ c → Passes room n rest {A = A} (deep at)
    go true e =
        let le : length at ≤ length rest = grind arith in
        let before = reached ts rest told.0 (told.1 ∷ told.2) told.4 (omega (arith, le, ap length told.3)) in
        let whole : told.0 ++ told.1 ∷ [] ≡ ts ++ (before.0 ++ told.1 ∷ []) = ap (λ (u : List Symbol). u ++ told.1 ∷ []) before.1 ∙ append_assoc ts before.0 (told.1 ∷ []) in
        inl (le, open-first room n w b r known f g rivals ts rest (told.0 ++ told.1 ∷ []) told.5 told.7 (before.0 ++ told.1 ∷ [], whole) begins (deep at) passes le)
    go false e = inr (at, refl, grind arith)
