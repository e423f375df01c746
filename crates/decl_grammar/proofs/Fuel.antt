-- Through how many forms that hold themselves reading may go makes no difference, where there are enough.
use Rattle.std.proofs.Common.{◌≡◌, ℕ, zero, suc, ◌+◌, ◌*◌, ◌<◌, ◌≤◌, Bool, true, false, cond, List, [], ◌∷◌, length, Some, None, ◌⊎◌, refl, sym, ap, ◌∙◌, arith, inl, inr}
use Rattle.std.specs.Prelude.{◌||◌}
use Rattle.decl_grammar.specs.declared.symbol.Symbol.{Symbol}
use Rattle.decl_grammar.specs.Reading.{starts, Outcome, done, fault, deep, ◌>>=◌, read_of}
use Rattle.decl_grammar.specs.Form.{Nest, counts, Of, first_of, Form, terminal, pair, turn, maybe, many, either, seen, nest, over, attempt, nullable, first, Readers, repeat, attempted, read}
use Rattle.decl_grammar.specs.Rule.{rule, enter_if, enter, read_at, read_nest, reads}
use Rattle.decl_grammar.proofs.OneToken.{no, no_true, both, one_or, rank, rank-bound, rank-below, guarded, any-guarded}
use Rattle.decl_grammar.proofs.Progress.{least, Shrinks, shorter}
use Rattle.decl_grammar.proofs.Rules.{rule-full, rule-guarded}

-- two readers are the same where thrice the symbols, and the rank, are less than this
abbrev pub Agree : ℕ → Readers → Readers → Type 0
Agree limit r s = (m : Nest) (ts : List Symbol) → 3 * length ts + rank m < limit → r m ts ≡ s m ts

-- two ways to go on are the same where they agree after what was read
bind_same : {A B : Type 0} (o : Outcome A) (p q : A → List Symbol → Outcome B) → ((x : A) (rest : List Symbol) → o ≡ done x rest → p x rest ≡ q x rest) → (o >>= p) ≡ (o >>= q)
bind_same (done x rest) p q h = h x rest refl
bind_same (fault at) p q h = refl
bind_same (deep at) p q h = refl

-- and where the first reading is the same too
bind_both : {A B : Type 0} (o o' : Outcome A) (p q : A → List Symbol → Outcome B) → o ≡ o' → ((x : A) (rest : List Symbol) → o ≡ done x rest → p x rest ≡ q x rest) → (o >>= p) ≡ (o' >>= q)
bind_both {A} {B} o o' p q e h = bind_same o p q h ∙ ap (λ (z : Outcome A). z >>= q) e

choice_same : {A : Type 0} (c : Bool) (p q p' q' : Outcome A) → p ≡ p' → q ≡ q' → cond c p q ≡ cond c p' q'
choice_same true p q p' q' e d = e
choice_same false p q p' q' e d = d

-- no longer than it was
less : {A : Type 0} (r : Readers) → Shrinks r → (f : Form A) (ts : List Symbol) (x : A) (rest : List Symbol) → read r f ts ≡ done x rest → length rest ≤ length ts
less r h f ts x rest e = omega (arith, shorter r h f ts x rest e)

repeat_same : {A : Type 0} (next : List Symbol → Bool) (limit : ℕ) (one two : List Symbol → Outcome A) → ((ts : List Symbol) → length ts ≤ limit → one ts ≡ two ts)
    → ((ts : List Symbol) (x : A) (rest : List Symbol) → one ts ≡ done x rest → length rest ≤ length ts) → (n : ℕ) (ts : List Symbol) → length ts ≤ limit → repeat next one n ts ≡ repeat next two n ts
repeat_same next limit one two h s zero ts le = refl
repeat_same {A} next limit one two h s (suc n) ts le =
    choice_same (next ts) (one ts >>= λ x rest. repeat next one n rest >>= λ xs after. done (x ∷ xs) after) (done [] ts) (two ts >>= λ x rest. repeat next two n rest >>= λ xs after. done (x ∷ xs) after) (done [] ts)
    (bind_both (one ts) (two ts) (λ x rest. repeat next one n rest >>= λ xs after. done (x ∷ xs) after) (λ x rest. repeat next two n rest >>= λ xs after. done (x ∷ xs) after) (h ts le)
    (λ x rest e. let p = s ts x rest e in ap (λ (z : Outcome (List A)). z >>= λ xs after. done (x ∷ xs) after) (repeat_same next limit one two h s n rest (omega arith))))
    refl

abbrev paired : {A B : Type 0} → A → Outcome B → Outcome (A × B)
paired x z = z >>= λ y after. done (x, y) after

abbrev shown : {A B : Type 0} → (List Symbol → B) → List Symbol → Outcome A → Outcome (B × A)
shown k ts z = z >>= λ x rest. done (k (read_of ts rest), x) rest

-- the second part of a pair: a symbol is read before it, or it may begin with forms of the same ranks as the first part
second-same : (limit k : ℕ) (r s : Readers) → Shrinks r → {A B : Type 0} (f : Form A) (g : Form B) (ts : List Symbol) → 3 * length ts + k ≤ limit
    → ((j : ℕ) → guarded j g ≡ true → (us : List Symbol) → 3 * length us + j ≤ limit → read r g us ≡ read s g us) → (no (nullable f) ≡ true) ⊎ (guarded k g ≡ true) → (x : A) (rest : List Symbol) → read r f ts ≡ done x rest → read r g rest ≡ read s g rest
second-same limit k r s h f g ts le same (inl n) x rest e =
    same 3 (any-guarded g) rest (omega (arith, le, shorter r h f ts x rest e, ap least (no_true (nullable f) n)))
second-same limit k r s h f g ts le same (inr n) x rest e = same k n rest (omega (arith, le, less r h f ts x rest e))

-- forms are read alike where what holds itself is
pub same-read : (limit k : ℕ) (r s : Readers) → Shrinks r → Agree limit r s → {A : Type 0} (f : Form A) → guarded k f ≡ true → (ts : List Symbol) → 3 * length ts + k ≤ limit → read r f ts ≡ read s f ts
same-read limit k r s h agree (terminal ks) good ts le = refl
same-read limit k r s h agree (pair {A} {B} f g) good ts le =
    let p = both (guarded k f) (no (nullable f) || guarded k g) good in
    bind_both {B = A × B} (read r f ts) (read s f ts) (λ x rest. read r g rest >>= λ y after. done (x, y) after) (λ x rest. read s g rest >>= λ y after. done (x, y) after) (same-read limit k r s h agree f p.0 ts le)
    (λ x rest e. ap (λ (z : Outcome B). paired x z) (second-same limit k r s h f g ts le (λ j n us z. same-read limit j r s h agree g n us z) (one_or (no (nullable f)) (guarded k g) p.1) x rest e))
same-read limit k r s h agree (turn {A} {B} t f) good ts le = ap (λ (z : Outcome A). z >>= λ x rest. done (t x) rest) (same-read limit k r s h agree f good ts le)
same-read limit k r s h agree (seen {A} {B} t f) good ts le = ap (λ (z : Outcome A). shown t ts z) (same-read limit k r s h agree f good ts le)
same-read limit k r s h agree (maybe {A} f) good ts le =
    ap (λ (z : Outcome A). cond (starts (first f) ts) (z >>= λ x rest. done (Some x) rest) (done None ts)) (same-read limit k r s h agree f good ts le)
same-read limit k r s h agree (many f) good ts le =
    repeat_same (starts (first f)) (length ts) (read r f) (read s f) (λ us z. same-read limit k r s h agree f good us (omega (arith, le, z))) (less r h f) (length ts) ts (omega arith)
same-read limit k r s h agree (either f g) good ts le =
    let p = both (guarded k f) (guarded k g) good in
    choice_same (starts (first f) ts) (read r f ts) (read r g ts) (read s f ts) (read s g ts) (same-read limit k r s h agree f p.0 ts le) (same-read limit k r s h agree g p.1 ts le)
same-read limit k r s h agree (nest m) good ts le = agree m ts (omega (arith, le, rank-below m k good))
same-read limit k r s h agree (over opens) good ts le = refl
same-read limit k r s h agree (attempt {A} f g) good ts le =
    let p = both (guarded k f) (guarded k g) good in
    ap (λ (z : Outcome A). attempted z (read r g ts)) (same-read limit k r s h agree f p.0 ts le) ∙ ap (λ (z : Outcome A). attempted (read s f ts) z) (same-read limit k r s h agree g p.1 ts le)

-- ---- readers of forms that hold themselves

shut_shorter : {A : Type 0} (c : Bool) (ts : List Symbol) (x : A) (rest : List Symbol) → cond c (deep ts) (fault ts) ≡ done x rest → length rest + 1 ≤ length ts
shut_shorter true ts x rest e = absurd cc
shut_shorter false ts x rest e = absurd cc

rule-shorter : (r : Readers) → Shrinks r → (m : Nest) (ts : List Symbol) (x : Of m) (rest : List Symbol) → read r (rule m) ts ≡ done x rest → length rest + 1 ≤ length ts
rule-shorter r h m ts x rest e =
    let b : least (nullable (rule m)) ≡ 1 = ap least (rule-full m) in
    omega (arith, shorter r h (rule m) ts x rest e, b)

enter-shorter : (inner : ℕ → Readers) → ((room : ℕ) → Shrinks (inner room)) → (m : Nest) (c : Bool) (room : ℕ) (ts : List Symbol) (x : Of m) (rest : List Symbol) → enter_if m c inner room ts ≡ done x rest → length rest + 1 ≤ length ts
enter-shorter inner h m true zero ts x rest e = shut_shorter (starts (first_of m) ts) ts x rest e
enter-shorter inner h m true (suc room) ts x rest e = rule-shorter (inner room) (h room) m ts x rest e
enter-shorter inner h m false room ts x rest e = rule-shorter (inner room) (h room) m ts x rest e

pub at-shorter : (n room : ℕ) → Shrinks (read_at n room)
at-shorter zero room m ts x rest e = absurd cc
at-shorter (suc n) room m ts x rest e = enter-shorter (read_at n) (at-shorter n) m (counts m) room ts x rest e

pub nest-shorter : (room : ℕ) → Shrinks (read_nest room)
unfolding read_nest
nest-shorter room m ts x rest e = at-shorter (3 * suc (length ts)) room m ts x rest e

-- two ways in are the same
enter-same : (inner other : ℕ → Readers) → ((room : ℕ) → Shrinks (inner room)) → (limit : ℕ) → ((room : ℕ) → Agree limit (inner room) (other room))
    → (m : Nest) (c : Bool) (room : ℕ) (ts : List Symbol) → 3 * length ts + rank m ≤ limit → enter_if m c inner room ts ≡ enter_if m c other room ts
enter-same inner other h limit agree m true zero ts le = refl
enter-same inner other h limit agree m true (suc room) ts le = same-read limit (rank m) (inner room) (other room) (h room) (agree room) (rule m) (rule-guarded m) ts le
enter-same inner other h limit agree m false room ts le = same-read limit (rank m) (inner room) (other room) (h room) (agree room) (rule m) (rule-guarded m) ts le

one-more : (n room : ℕ) → Agree n (read_at (suc n) room) (read_at n room)
one-more zero room m ts lt = absurd (omega (arith, lt))
one-more (suc n) room m ts lt =
    enter-same (read_at (suc n)) (read_at n) (at-shorter (suc n)) n (one-more n) m (counts m) room ts (omega (arith, lt))

more-fuel : (k n room : ℕ) → Agree n (read_at (k + n) room) (read_at n room)
more-fuel zero n room m ts lt = ap (λ (i : ℕ). read_at i room m ts) (omega arith)
more-fuel (suc k) n room m ts lt =
    let e : suc k + n ≡ suc (k + n) = omega arith in
    ap (λ (i : ℕ). read_at i room m ts) e ∙ (one-more (k + n) room m ts (omega (arith, lt)) ∙ more-fuel k n room m ts lt)

pub enough : (n room : ℕ) → Agree n (read_at n room) (read_nest room)
unfolding read_nest
enough n room m ts lt =
    let all = 3 * suc (length ts) in
    let e : all + n ≡ n + all = omega arith in
    sym (more-fuel all n room m ts lt) ∙ (ap (λ (i : ℕ). read_at i room m ts) e ∙ more-fuel n all room m ts (omega (arith, rank-bound m)))

nest-opened : (room : ℕ) (m : Nest) (ts : List Symbol) → read_nest room m ts ≡ enter (read_at (3 * length ts + 2)) room m ts
unfolding read_nest
nest-opened room m ts =
    let e : 3 * suc (length ts) ≡ suc (3 * length ts + 2) = omega arith in
    ap (λ (i : ℕ). read_at i room m ts) e

-- reading a form that holds itself is reading its rule
pub nest-is : (room : ℕ) (m : Nest) (ts : List Symbol) → read_nest room m ts ≡ enter read_nest room m ts
nest-is room m ts =
    let n = 3 * length ts + 2 in
    nest-opened room m ts ∙ enter-same (read_at n) read_nest (at-shorter n) n (enough n) m (counts m) room ts (omega (arith, rank-bound m))

-- with enough of them, reading is the same
pub at-reads : (room limit : ℕ) {A : Type 0} (f : Form A) (ts : List Symbol) → length ts ≤ limit → reads room f ts ≡ read (read_at (3 * suc limit) room) f ts
at-reads room limit f ts le =
    same-read (3 * suc limit) 3 (read_nest room) (read_at (3 * suc limit) room) (nest-shorter room) (λ m us z. sym (enough (3 * suc limit) room m us z)) f (any-guarded f) ts (omega (arith, le))
