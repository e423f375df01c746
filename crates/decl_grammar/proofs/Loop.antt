-- Reading parts one after another, as a loop does.
use Rattle.std.proofs.Common.{◌≡◌, ℕ, zero, suc, ◌+◌, ◌<◌, ◌≤◌, true, false, cond, List, [], ◌∷◌, ◌++◌, length, refl, sym, ap, ◌∙◌, append_assoc, arith}
use Rattle.std.proofs.lemmas.List.{append-nil}
use Rattle.decl_grammar.specs.declared.symbol.Symbol.{Symbol}
use Rattle.decl_grammar.specs.declared.fault.ReadFault.{ReadFault}
use Rattle.decl_grammar.specs.declared.fault.ReadFault.TheVariants as errors
use Rattle.decl_grammar.specs.Reading.{starts, Outcome, done, fault, deep, ◌>>=◌, Fails}
use Rattle.decl_grammar.specs.Form.{Form, pair, turn, many, nullable, first, repeat, with_front, turned}
use Rattle.decl_grammar.specs.Rule.{read_nest, reads}
use Rattle.decl_grammar.proofs.Progress.{least, shorter}
use Rattle.decl_grammar.proofs.Fuel.{nest-shorter}

-- two ways to go on are the same where they agree after what was read
bind_same : {A : Type 0} (r : Outcome A) (p q : List Symbol → Outcome (List A)) → ((x : A) (rest : List Symbol) → r ≡ done x rest → p rest ≡ q rest)
    → (r >>= λ x rest. p rest >>= λ xs after. done (x ∷ xs) after) ≡ (r >>= λ x rest. q rest >>= λ xs after. done (x ∷ xs) after)
bind_same {A} (done x rest) p q h = ap (λ (o : Outcome (List A)). o >>= λ xs after. done (x ∷ xs) after) (h x rest refl)
bind_same (fault at) p q h = refl
bind_same (deep at) p q h = refl

-- how many turns are allowed makes no difference where there are enough
fuel : {A : Type 0} (ks : List ℕ) (one : List Symbol → Outcome A) → ((ts : List Symbol) (x : A) (rest : List Symbol) → one ts ≡ done x rest → length rest + 1 ≤ length ts)
    → (n m : ℕ) (ts : List Symbol) → length ts ≤ n → length ts ≤ m → repeat (starts ks) one n ts ≡ repeat (starts ks) one m ts
fuel ks one h zero zero ts p q = refl
fuel ks one h zero (suc m) [] p q = refl
fuel ks one h zero (suc m) (t ∷ ts) p q = absurd (omega arith)
fuel ks one h (suc n) zero [] p q = refl
fuel ks one h (suc n) zero (t ∷ ts) p q = absurd (omega arith)
fuel {A} ks one h (suc n) (suc m) ts p q =
    let later : (x : A) (rest : List Symbol) → one ts ≡ done x rest → repeat (starts ks) one n rest ≡ repeat (starts ks) one m rest = λ x rest e. let s = h ts x rest e in fuel ks one h n m rest (omega arith) (omega arith) in
    ap (λ (w : Outcome (List A)). cond (starts ks ts) w (done [] ts)) (bind_same (one ts) (repeat (starts ks) one n) (repeat (starts ks) one m) later)

-- a row of parts is nothing, or one part and then a row
pub many-unroll : (room : ℕ) {A : Type 0} (f : Form A) (ts : List Symbol) → nullable f ≡ false
    → reads room (many f) ts ≡ cond (starts (first f) ts) (reads room f ts >>= λ x rest. reads room (many f) rest >>= λ xs after. done (x ∷ xs) after) (done [] ts)
many-unroll room f [] full = refl
many-unroll room {A} f (t ∷ ts) full =
    let b : least (nullable f) ≡ 1 = ap least full in
    let one : (ts : List Symbol) (x : A) (rest : List Symbol) → reads room f ts ≡ done x rest → length rest + 1 ≤ length ts = λ ts x rest e. omega (arith, b, shorter (read_nest room) (nest-shorter room) f ts x rest e) in
    let later : (x : A) (rest : List Symbol) → reads room f (t ∷ ts) ≡ done x rest → repeat (starts (first f)) (reads room f) (length ts) rest ≡ reads room (many f) rest = λ x rest e. let s = one (t ∷ ts) x rest e in fuel (first f) (reads room f) one (length ts) (length rest) rest (omega arith) (omega arith) in
    ap (λ (w : Outcome (List A)). cond (starts (first f) (t ∷ ts)) w (done [] (t ∷ ts))) (bind_same (reads room f (t ∷ ts)) (repeat (starts (first f)) (reads room f) (length ts)) (reads room (many f)) later)

-- the measure of a loop over parts
pub falls : (room : ℕ) {A : Type 0} (f : Form A) (ts : List Symbol) (x : A) (after : List Symbol) → nullable f ≡ false → reads room f ts ≡ done x after → length after < length ts
falls room f ts x after full e =
    let b : least (nullable f) ≡ 1 = ap least full in
    omega (arith, b, shorter (read_nest room) (nest-shorter room) f ts x after e)

-- one turn of a loop
pub goes_on : (room : ℕ) {A B : Type 0} (f : Form A) (h : List A → B) (ts : List Symbol) (x : A) (after : List Symbol) (total : Outcome B) → nullable f ≡ false → starts (first f) ts ≡ true → reads room f ts ≡ done x after
    → turned h (reads room (many f) ts) ≡ total → turned (λ xs. h (x ∷ xs)) (reads room (many f) after) ≡ total
goes_on room f h ts x after total full s e so_far = regroup h x (reads room (many f) after) ∙ sym (rw (many-unroll room f ts full, s, e) refl) ∙ so_far
  where
    regroup : {A B : Type 0} (h : List A → B) (x : A) (r : Outcome (List A)) → turned (λ xs. h (x ∷ xs)) r ≡ turned h (r >>= λ xs after. done (x ∷ xs) after)
    regroup h x (done xs after) = refl
    regroup h x (fault at) = refl
    regroup h x (deep at) = refl

front_same : {A : Type 0} (front : List A) (x : A) (r : Outcome (List A)) → turned (λ xs. front ++ (x ∷ xs)) r ≡ with_front (front ++ x ∷ []) r
front_same front x (done xs after) = ap (λ (ys : List _). done ys after) (sym (append_assoc front (x ∷ []) xs))
front_same front x (fault at) = refl
front_same front x (deep at) = refl

-- one turn of a loop that puts parts behind others
pub gathers : (room : ℕ) {A : Type 0} (f : Form A) (front : List A) (ts : List Symbol) (x : A) (after : List Symbol) (total : Outcome (List A)) → nullable f ≡ false → starts (first f) ts ≡ true → reads room f ts ≡ done x after
    → with_front front (reads room (many f) ts) ≡ total → with_front (front ++ x ∷ []) (reads room (many f) after) ≡ total
gathers room f front ts x after total full s e so_far =
    sym (front_same front x (reads room (many f) after)) ∙ goes_on room f (λ xs. front ++ xs) ts x after total full s e so_far

-- a part that fails
pub ends : (room : ℕ) {A B : Type 0} (f : Form A) (h : List A → B) (ts : List Symbol) (e : ReadFault) (total : Outcome B) → nullable f ≡ false → starts (first f) ts ≡ true → Fails e (reads room f ts)
    → turned h (reads room (many f) ts) ≡ total → Fails e total
ends room f h ts errors.Memory total full s p so_far = tt
ends room f h ts (errors.Bad n) total full s p so_far = (p.0, sym so_far ∙ rw (many-unroll room f ts full, s, p.1) refl, p.2)
ends room f h ts (errors.Deep n) total full s p so_far = (p.0, sym so_far ∙ rw (many-unroll room f ts full, s, p.1) refl, p.2)

-- no further part
pub stops : (room : ℕ) {A B : Type 0} (f : Form A) (h : List A → B) (ts : List Symbol) (total : Outcome B) → nullable f ≡ false → starts (first f) ts ≡ false
    → turned h (reads room (many f) ts) ≡ total → total ≡ done (h []) ts
stops room f h ts total full s so_far = sym so_far ∙ rw (many-unroll room f ts full, s) refl

-- the same where parts were put behind others
pub gathered : (room : ℕ) {A : Type 0} (f : Form A) (front : List A) (ts : List Symbol) (total : Outcome (List A)) → nullable f ≡ false → starts (first f) ts ≡ false
    → with_front front (reads room (many f) ts) ≡ total → total ≡ done front ts
gathered room f front ts total full s so_far = stops room f (λ xs. front ++ xs) ts total full s so_far ∙ ap (λ (ys : List _). done ys ts) (append-nil front)

-- a loop begins with nothing in front
pub starts_with : {A : Type 0} (r : Outcome (List A)) → with_front [] r ≡ r
starts_with (done xs after) = refl
starts_with (fault at) = refl
starts_with (deep at) = refl

pub turned_fails : {A B : Type 0} (h : A → B) (e : ReadFault) (r : Outcome A) → Fails e r → Fails e (turned h r)
turned_fails h errors.Memory r p = tt
turned_fails h (errors.Bad n) r p = (p.0, ap (turned h) p.1, p.2)
turned_fails h (errors.Deep n) r p = (p.0, ap (turned h) p.1, p.2)

-- ---- loops that keep a state

-- a state, and what parts make of it
pub record Folds {A S : Type 0} (step : S → A → S) (all : S → List A → S) : Type 0 where
  pub none : (s : S) → all s [] ≡ s
  pub more : (s : S) (x : A) (xs : List A) → all s (x ∷ xs) ≡ all (step s x) xs

pub turned_done : {A B : Type 0} (g : A → B) (o : Outcome A) (y : B) (rest : List Symbol) → turned g o ≡ done y rest → (x : A) × (o ≡ done x rest) × (y ≡ g x)
turned_done g (done x at) y rest e = (x, cc, cc)
turned_done g (fault at) y rest e = absurd cc
turned_done g (deep at) y rest e = absurd cc

pub unturned_fails : {A B : Type 0} (g : A → B) (e : ReadFault) (o : Outcome A) → Fails e (turned g o) → Fails e o
unturned_fails g errors.Memory o p = tt
unturned_fails g (errors.Bad n) o p = (p.0, unturned_fault o p.0 p.1, p.2)
  where
    unturned_fault : (o : Outcome _) (at : List Symbol) → turned g o ≡ fault at → o ≡ fault at
    unturned_fault (done x rest) at e = absurd cc
    unturned_fault (fault us) at e = cc
    unturned_fault (deep us) at e = absurd cc
unturned_fails g (errors.Deep n) o p = (p.0, unturned_deep o p.0 p.1, p.2)
  where
    unturned_deep : (o : Outcome _) (at : List Symbol) → turned g o ≡ deep at → o ≡ deep at
    unturned_deep (done x rest) at e = absurd cc
    unturned_deep (fault us) at e = absurd cc
    unturned_deep (deep us) at e = cc

turned_same : {A B : Type 0} (g h : A → B) (o : Outcome A) → ((x : A) → g x ≡ h x) → turned g o ≡ turned h o
turned_same {A} {B} g h (done x rest) e = ap (λ (y : B). done y rest) (e x)
turned_same g h (fault at) e = refl
turned_same g h (deep at) e = refl

pub fold-falls : (room : ℕ) {A S : Type 0} (f : Form A) (step : S → A → S) (s : S) (ts : List Symbol) (next : S) (after : List Symbol) → nullable f ≡ false → turned (step s) (reads room f ts) ≡ done next after → length after < length ts
fold-falls room f step s ts next after full e = let p = turned_done (step s) (reads room f ts) next after e in falls room f ts p.0 after full p.1

pub folds : (room : ℕ) {A S : Type 0} (f : Form A) (step : S → A → S) (all : S → List A → S) → Folds step all → (s : S) (ts : List Symbol) (next : S) (after : List Symbol) (total : Outcome S) → nullable f ≡ false → starts (first f) ts ≡ true
    → turned (step s) (reads room f ts) ≡ done next after → turned (all s) (reads room (many f) ts) ≡ total → turned (all next) (reads room (many f) after) ≡ total
folds room {A} {S} f step all laws s ts next after total full st e so_far =
    let p = turned_done (step s) (reads room f ts) next after e in
    ap (λ (n : S). turned (all n) (reads room (many f) after)) p.2
    ∙ (turned_same (all (step s p.0)) (λ xs. all s (p.0 ∷ xs)) (reads room (many f) after) (λ xs. sym (laws.more s p.0 xs))
    ∙ goes_on room f (all s) ts p.0 after total full st p.1 so_far)

pub fold-ends : (room : ℕ) {A S : Type 0} (f : Form A) (step : S → A → S) (all : S → List A → S) (s : S) (ts : List Symbol) (e : ReadFault) (total : Outcome S) → nullable f ≡ false → starts (first f) ts ≡ true
    → Fails e (turned (step s) (reads room f ts)) → turned (all s) (reads room (many f) ts) ≡ total → Fails e total
fold-ends room f step all s ts e total full st p so_far = ends room f (all s) ts e total full st (unturned_fails (step s) e (reads room f ts) p) so_far

pub fold-stops : (room : ℕ) {A S : Type 0} (f : Form A) (step : S → A → S) (all : S → List A → S) → Folds step all → (s : S) (ts : List Symbol) (total : Outcome S) → nullable f ≡ false → starts (first f) ts ≡ false
    → turned (all s) (reads room (many f) ts) ≡ total → total ≡ done s ts
fold-stops room {A} {S} f step all laws s ts total full st so_far = stops room f (all s) ts total full st so_far ∙ ap (λ (n : S). done n ts) (laws.none s)

-- a first part, and the others behind it
pub fold-first : (room : ℕ) {A S : Type 0} (f : Form A) (g : Form A) (step : S → A → S) (all : S → List A → S) → Folds step all → (s : S) (ts : List Symbol) (next : S) (after : List Symbol) → turned (step s) (reads room f ts) ≡ done next after
    → reads room (turn (λ (x : A × List A). all s (x.0 ∷ x.1)) (pair f (many g))) ts ≡ turned (all next) (reads room (many g) after)
fold-first room {A} {S} f g step all laws s ts next after e =
    let p = turned_done (step s) (reads room f ts) next after e in
    let one : reads room f ts ≡ done p.0 after = p.1 in
    rw one (joined p.0 (reads room (many g) after) ∙ (turned_same (λ xs. all s (p.0 ∷ xs)) (all (step s p.0)) (reads room (many g) after) (λ xs. laws.more s p.0 xs) ∙ ap (λ (n : S). turned (all n) (reads room (many g) after)) (sym p.2)))
  where
    joined : (x : A) (o : Outcome (List A)) → turned (λ (z : A × List A). all s (z.0 ∷ z.1)) (o >>= λ y rest. done (x, y) rest) ≡ turned (λ xs. all s (x ∷ xs)) o
    joined x (done xs rest) = refl
    joined x (fault at) = refl
    joined x (deep at) = refl
