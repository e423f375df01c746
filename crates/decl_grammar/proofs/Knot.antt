-- How the forms that hold themselves are read, with each room.
use Rattle.std.proofs.Common.{◌≡◌, ℕ, zero, suc, ◌+◌, ◌*◌, ◌≤◌, Bool, true, false, cond, List, [], ◌∷◌, ◌++◌, Some, None, length, refl, sym, subst, length-append, arith, inl, inr}
use Rattle.decl_grammar.specs.declared.symbol.Symbol.{Symbol}
use Rattle.decl_grammar.specs.Reading.{has, starts, Outcome, done, fault, deep, left}
use Rattle.decl_grammar.specs.Form.{Nest, Of, Form, counts, opened, first_of, nest, Readers, Begins, read}
use Rattle.decl_grammar.specs.Rule.{rule, enter_if, read_at, read_nest, reads, WholeAt, BegunAt}
use Rattle.decl_grammar.proofs.OneToken.{within-starts, more_of, more, ok, rank, rank-bound, any-guarded}
use Rattle.decl_grammar.proofs.Rules.{rule-more, rule-ok, rule-guarded}
use Rattle.decl_grammar.proofs.Fuel.{nest-is}
use Rattle.decl_grammar.proofs.Told.{Told, told}
use Rattle.decl_grammar.proofs.Rivals.{Begins-up, Fair, plain, fair-plain}
use Rattle.decl_grammar.proofs.Attempts.{Known, Passes}
use Rattle.decl_grammar.proofs.Complete.{Comes, NestComes, Inside, complete}
use Rattle.decl_grammar.proofs.Passes.{NestPasses, Bounded, bounded, Inner, passes}
use Rattle.decl_grammar.proofs.Heights.{opens-at, opened-counted, opened-free, full-at, heads-at, bheads-at, Whole, Started, whole-up, started-up, full-any, heads-any, bheads-any, begins-any, fronts-any, AllFair}

-- a form of the grammar: the next symbol tells how to go on, but between two readings that keep to what they must
abbrev pub IsSound : {A : Type 0} → Form A → Type 0
IsSound f = (ok f ≡ true) × Fair Whole Started f × AllFair

pub sound-plain : AllFair → {A : Type 0} (f : Form A) → ok f ≡ true → plain f ≡ true → IsSound f
sound-plain fair f good e = (good, fair-plain Whole Started f e, fair)

-- ---- no reading leaves more symbols than there were

shut-left : (A : Type 0) (c : Bool) (ts : List Symbol) → length (left {A = A} (cond c (deep ts) (fault ts))) ≤ length ts
shut-left A true ts = omega arith
shut-left A false ts = omega arith

enter-left : (inner : ℕ → Readers) → ((room : ℕ) → Bounded (inner room)) → (m : Nest) (c : Bool) (room : ℕ) (ts : List Symbol) → length (left (enter_if m c inner room ts)) ≤ length ts
enter-left inner h m true zero ts = shut-left (Of m) (starts (first_of m) ts) ts
enter-left inner h m true (suc room) ts = bounded (inner room) (h room) (rule m) ts
enter-left inner h m false room ts = bounded (inner room) (h room) (rule m) ts

bounded-fuel : (n room : ℕ) → Bounded (read_at n room)
bounded-fuel zero room m ts = omega arith
bounded-fuel (suc n) room m ts = enter-left (read_at n) (bounded-fuel n) m (counts m) room ts

pub bounded-at : (room : ℕ) → Bounded (read_nest room)
unfolding read_nest
bounded-at room m ts = bounded-fuel (3 * suc (length ts)) room m ts

-- ---- what reading tells

told-shut : (h : ℕ) → 2 ≤ h → (m : Nest) → counts m ≡ true → (ts : List Symbol) → Told zero (WholeAt (suc h)) (BegunAt (suc h)) (nest m) ts (cond (starts (first_of m) ts) (deep ts) (fault ts))
told-shut h high m counted [] = ([], refl, 0, inl (refl, refl))
told-shut h high m counted (t ∷ ts) = go (has (first_of m) t.sort) refl
  where
    go : (c : Bool) → has (first_of m) t.sort ≡ c → Told zero (WholeAt (suc h)) (BegunAt (suc h)) (nest m) (t ∷ ts) (cond c (deep (t ∷ ts)) (fault (t ∷ ts)))
    go true e =
        let p = opens-at h m (omega (arith, rank-bound m, high)) t e in
        ([], t, ts, refl, refl, suc p.0, omega arith, inr (t, [], p.0, refl, sym (opened-counted m p.0 counted), p.1))
    go false e = ([], refl, 0, inl (refl, refl))

-- what begins the rule begins the form
begun-nest : (h : ℕ) (m : Nest) (us : List Symbol) (n : ℕ) → Begins (WholeAt h) (BegunAt h) (rule m) us n → (k : ℕ) × Begins (WholeAt (suc h)) (BegunAt (suc h)) (nest m) us k
begun-nest h m [] n p = (0, inl (refl, refl))
begun-nest h m (t ∷ us) n p = (opened m n, inr (t, us, n, refl, refl, p))

open-nest : (h : ℕ) (m : Nest) (us : List Symbol) (t : Symbol) (n : ℕ) → Begins (WholeAt h) (BegunAt h) (rule m) (us ++ t ∷ []) n → Begins (WholeAt (suc h)) (BegunAt (suc h)) (nest m) (us ++ t ∷ []) (opened m n)
open-nest h m [] t n p = inr (t, [], n, refl, refl, p)
open-nest h m (u ∷ us) t n p = inr (u, us ++ t ∷ [], n, refl, refl, p)

told-open : (room h : ℕ) (m : Nest) → counts m ≡ true → (ts : List Symbol) (o : Outcome (Of m)) → Told room (WholeAt h) (BegunAt h) (rule m) ts o → Told (suc room) (WholeAt (suc h)) (BegunAt (suc h)) (nest m) ts o
told-open room h m counted ts (done x rest) p = p
told-open room h m counted ts (fault at) p = let b = begun-nest h m p.0 p.2 p.3 in (p.0, p.1, b.0, b.1)
told-open room h m counted ts (deep at) p = (p.0, p.1, p.2, p.3, p.4, opened m p.5, omega (arith, p.6, opened-counted m p.5 counted), open-nest h m p.0 p.1 p.5 p.7)

told-free : (room h : ℕ) (m : Nest) → counts m ≡ false → (ts : List Symbol) (o : Outcome (Of m)) → Told room (WholeAt h) (BegunAt h) (rule m) ts o → Told room (WholeAt (suc h)) (BegunAt (suc h)) (nest m) ts o
told-free room h m free ts (done x rest) p = p
told-free room h m free ts (fault at) p = let b = begun-nest h m p.0 p.2 p.3 in (p.0, p.1, b.0, b.1)
told-free room h m free ts (deep at) p = (p.0, p.1, p.2, p.3, p.4, opened m p.5, omega (arith, p.6, opened-free m p.5 free), open-nest h m p.0 p.1 p.5 p.7)

abbrev Tells : ℕ → ℕ → Readers → Type 0
Tells room h r = (m : Nest) (ts : List Symbol) → Told room (WholeAt h) (BegunAt h) (nest m) ts (r m ts)

told-enter : (inner : ℕ → Readers) (h : ℕ) → 2 ≤ h → ((room : ℕ) → Tells room h (inner room)) → (m : Nest) (c : Bool) → counts m ≡ c → (room : ℕ) (ts : List Symbol) → Told room (WholeAt (suc h)) (BegunAt (suc h)) (nest m) ts (enter_if m c inner room ts)
told-enter inner h high tells m true counted zero ts = told-shut h high m counted ts
told-enter inner h high tells m true counted (suc room) ts = told-open room h m counted ts (read (inner room) (rule m) ts) (told room (WholeAt h) (BegunAt h) (inner room) (tells room) (rule m) ts)
told-enter inner h high tells m false free room ts = told-free room h m free ts (read (inner room) (rule m) ts) (told room (WholeAt h) (BegunAt h) (inner room) (tells room) (rule m) ts)

pub told-at : (n room : ℕ) → Tells room (suc (suc n)) (read_at n room)
told-at zero room m ts = ([], refl, 0, inl (refl, refl))
told-at (suc n) room m ts = told-enter (read_at n) (suc (suc n)) (omega arith) (told-at n) m (counts m) refl room ts

told-up : (h room : ℕ) (m : Nest) (ts : List Symbol) (o : Outcome (Of m)) → Told room (WholeAt h) (BegunAt h) (nest m) ts o → Told room Whole Started (nest m) ts o
told-up h room m ts (done x rest) p = (p.0, p.1, (h, p.2))
told-up h room m ts (fault at) p = (p.0, p.1, p.2, Begins-up (WholeAt h) Whole (BegunAt h) Started (whole-up h) (started-up h) (nest m) p.0 p.2 p.3)
told-up h room m ts (deep at) p =
    (p.0, p.1, p.2, p.3, p.4, p.5, p.6, Begins-up (WholeAt h) Whole (BegunAt h) Started (whole-up h) (started-up h) (nest m) (p.0 ++ p.1 ∷ []) p.5 p.7)

told-nest : (room : ℕ) (m : Nest) (ts : List Symbol) → Told room Whole Started (nest m) ts (read_nest room m ts)
unfolding read_nest
told-nest room m ts =
    let n = 3 * suc (length ts) in
    told-up (suc (suc n)) room m ts (read_at n room m ts) (told-at n room m ts)

pub known-any : (room : ℕ) → Known room Whole Started (read_nest room)
known-any room = record { full = full-any; begins = begins-any; fronts = fronts-any; told = told-nest room }

-- ---- what is whole is read

abbrev RoomComes : ℕ → Type 0
RoomComes h = (room : ℕ) → NestComes (WholeAt h) (read_nest room)

comes-shut : (h : ℕ) (m : Nest) (ts : List Symbol) (x : Of m) (rest : List Symbol) → WholeAt (suc h) m ts x → Comes x rest (cond (starts (first_of m) (ts ++ rest)) (deep (ts ++ rest)) (fault (ts ++ rest)))
comes-shut h m [] x rest is = absurd (full-at (suc h) m x is)
comes-shut h m (t ∷ ts) x rest is =
    let e = heads-at (suc h) m t ts x is in
    inr (t ∷ ts ++ rest, rw e refl, omega (arith, length-append ts rest))

pub inside-at : (room h : ℕ) → NestComes (WholeAt h) (read_nest room) → Inside (WholeAt h) Whole Started room (read_nest room)
inside-at room h comes = record { full = full-at h; heads = heads-at h; comes = comes; up = whole-up h; height = (Some h, (λ m ts x is. is), (λ m ts x is. is)); known = known-any room }

comes-rule : AllFair → (room h : ℕ) → RoomComes h → (m : Nest) (ts : List Symbol) (x : Of m) (rest : List Symbol) → starts (more_of m) rest ≡ false → WholeAt (suc h) m ts x → Comes x rest (reads room (rule m) (ts ++ rest))
comes-rule fair room h comes m ts x rest c is =
    complete (WholeAt h) Whole Started room (read_nest room) (inside-at room h (comes room)) (rule m) (rule-ok m) (fair m) ts x rest (within-starts (more (rule m)) (more_of m) rest (rule-more m) c) is

comes-enter : AllFair → (h : ℕ) → RoomComes h → (m : Nest) (c : Bool) (room : ℕ) (ts : List Symbol) (x : Of m) (rest : List Symbol) → starts (more_of m) rest ≡ false → WholeAt (suc h) m ts x → Comes x rest (enter_if m c read_nest room (ts ++ rest))
comes-enter fair h comes m true zero ts x rest c is = comes-shut h m ts x rest is
comes-enter fair h comes m true (suc room) ts x rest c is = comes-rule fair room h comes m ts x rest c is
comes-enter fair h comes m false room ts x rest c is = comes-rule fair room h comes m ts x rest c is

pub comes-at : AllFair → (h room : ℕ) → NestComes (WholeAt h) (read_nest room)
comes-at fair zero room m ts x rest c is = absurd is
comes-at fair (suc h) room m ts x rest c is =
    subst (λ (o : Outcome (Of m)). Comes x rest o) (sym (nest-is room m (ts ++ rest))) (comes-enter fair h (comes-at fair h) m (counts m) room ts x rest c is)

pub inside-any : AllFair → (room : ℕ) → Inside Whole Whole Started room (read_nest room)
inside-any fair room = record { full = full-any; heads = heads-any; comes = λ m ts x rest c is. comes-at fair is.0 room m ts x rest c is.1; up = λ m ts x is. is; height = (None, (λ m ts x is. is), (λ m ts x is. is)); known = known-any room }

-- ---- what begins is passed

passes-shut : (h : ℕ) (m : Nest) → counts m ≡ true → (t : Symbol) (us : List Symbol) (k : ℕ) (rest : List Symbol) → BegunAt (suc h) m (t ∷ us) k → Passes zero (opened m k) rest {A = Of m} (cond (has (first_of m) t.sort) (deep (t ∷ us ++ rest)) (fault (t ∷ us ++ rest)))
passes-shut h m counted t us k rest b =
    let e = bheads-at (suc h) m t us k b in
    inr (t ∷ us ++ rest, rw e refl, omega (arith, length-append us rest))

passes-open : (room n k : ℕ) (rest : List Symbol) {A : Type 0} (o : Outcome A) → n ≡ suc k → Passes room k rest o → Passes (suc room) n rest o
passes-open room n k rest o e (inl p) = inl (p.0, omega (arith, p.1, e))
passes-open room n k rest o e (inr p) = inr p

passes-free : (room n k : ℕ) (rest : List Symbol) {A : Type 0} (o : Outcome A) → n ≡ k → Passes room k rest o → Passes room n rest o
passes-free room n k rest o e (inl p) = inl (p.0, omega (arith, p.1, e))
passes-free room n k rest o e (inr p) = inr p

inner-with : AllFair → (limit room : ℕ) → NestPasses limit room Started (read_nest room) → Inner limit room Whole Started (read_nest room)
inner-with fair limit room p = record { inside = inside-any fair room; bheads = bheads-any; bounds = bounded-at room; passes = p }

abbrev RoomPasses : ℕ → Type 0
RoomPasses limit = (room : ℕ) → NestPasses limit room Started (read_nest room)

passes-rule : AllFair → (limit : ℕ) → RoomPasses limit → (room : ℕ) (m : Nest) (ts : List Symbol) → 3 * length ts + rank m ≤ limit → (k : ℕ) (rest : List Symbol) → Begins Whole Started (rule m) ts k → Passes room k rest (reads room (rule m) (ts ++ rest))
passes-rule fair limit p room m ts le k rest b =
    passes limit (rank m) room Whole Started (read_nest room) (inner-with fair limit room (p room)) (rule m) (rule-guarded m) (rule-ok m) (fair m) ts le k rest b

passes-enter : AllFair → (limit : ℕ) → RoomPasses limit → (m : Nest) (c : Bool) → counts m ≡ c → (room : ℕ) (t : Symbol) (us : List Symbol) → 3 * length (t ∷ us) + rank m ≤ limit → (h k : ℕ) (rest : List Symbol) → BegunAt (suc h) m (t ∷ us) k → Passes room (opened m k) rest (enter_if m c read_nest room (t ∷ us ++ rest))
passes-enter fair limit p m true counted zero t us le h k rest b = passes-shut h m counted t us k rest b
passes-enter fair limit p m true counted (suc room) t us le h k rest b =
    passes-open room (opened m k) k rest (reads room (rule m) (t ∷ us ++ rest)) (opened-counted m k counted)
    (passes-rule fair limit p room m (t ∷ us) le k rest (Begins-up (WholeAt h) Whole (BegunAt h) Started (whole-up h) (started-up h) (rule m) (t ∷ us) k b))
passes-enter fair limit p m false free room t us le h k rest b =
    passes-free room (opened m k) k rest (reads room (rule m) (t ∷ us ++ rest)) (opened-free m k free)
    (passes-rule fair limit p room m (t ∷ us) le k rest (Begins-up (WholeAt h) Whole (BegunAt h) Started (whole-up h) (started-up h) (rule m) (t ∷ us) k b))

passes-within : AllFair → (limit room : ℕ) → NestPasses limit room Started (read_nest room)
passes-within fair zero room m t us k rest lt b = absurd (omega (arith, lt))
passes-within fair (suc limit) room m t us k rest lt (zero, b) = absurd b
passes-within fair (suc limit) room m t us k rest lt (suc h, b) =
    subst (λ (o : Outcome (Of m)). Passes room (opened m k) rest o) (sym (nest-is room m (t ∷ us ++ rest))) (passes-enter fair limit (passes-within fair limit) m (counts m) refl room t us (omega (arith, lt)) h k rest b)

-- what begins a sound form is passed
pub passes-any : {A : Type 0} (f : Form A) → IsSound f → (room : ℕ) (ts : List Symbol) (n : ℕ) (rest : List Symbol) → Begins Whole Started f ts n → Passes room n rest (reads room f (ts ++ rest))
passes-any f sound room ts n rest b =
    let limit = 3 * length ts + 3 in
    passes limit 3 room Whole Started (read_nest room) (inner-with sound.2 limit room (passes-within sound.2 limit room)) f (any-guarded f) sound.0 sound.1 ts (omega arith) n rest b
