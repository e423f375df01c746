-- At least this many separators stand directly in a phrase of a form, by what the phrase means, and the braces around it stay: one lemma for each way to make forms of others.
use Rattle.std.proofs.Common.{◌≡◌, ℕ, zero, suc, ◌+◌, ◌≤◌, true, List, [], ◌∷◌, Option, Some, None, inl, inr, sym, ap, subst, ◌∙◌, arith}
use Rattle.std.proofs.lemmas.Bool.{eqb-true}
use Rattle.decl_grammar.specs.declared.symbol.Symbol.{Symbol}
use Rattle.decl_grammar.specs.Symbols.{operator}
use Rattle.decl_grammar.specs.TokenNames as token
use Rattle.decl_grammar.specs.Reading.{has}
use Rattle.decl_grammar.specs.Form.{Nest, Of, Form, pair, turn, maybe, many, either, seen, nest, attempt, Each, Is}
use Rattle.decl_grammar.specs.Types.{sign, behind, before}
use Rattle.decl_grammar.specs.Grammar.{block}
use Rattle.decl_grammar.specs.Rule.{rule, WholeAt}
use Rattle.decl_limits.specs.Separators.{separators}
use Rattle.decl_limits.proofs.Scans.{Adds, adds-nothing, adds-less, adds-both, adds-few, mark-adds}
use Rattle.decl_limits.proofs.PassedBraces.{braces-add}
use Rattle.decl_limits.proofs.Braces.{Effect, level, closing, effect, Levels, open-close}
use Rattle.decl_limits.proofs.RuleBraces.{phrase-level, phrase-levels}

-- ---- phrases

-- of phrases that stand at most this high: this many more are counted within the same braces, and this many separate
pub record AtLeast (h : ℕ) {A : Type 0} (f : Form A) (least : A → ℕ) : Type 0 where
  pub added : (ts : List Symbol) (x : A) → Is (WholeAt h) f ts x → Adds ts (least x)
  pub there : (ts : List Symbol) (x : A) → Is (WholeAt h) f ts x → least x ≤ separators ts

pub at-least : {h : ℕ} {A : Type 0} {f : Form A} {least : A → ℕ} → ((ts : List Symbol) (x : A) → Is (WholeAt h) f ts x → Adds ts (least x)) → AtLeast h f least
at-least added = record { added = added; there = λ ts x is. adds-few (added ts x is) }

-- a form whose braces stand in pairs
pub none : (h : ℕ) {A : Type 0} (f : Form A) → effect f ≡ level → AtLeast h f (λ x. 0)
none h f even = at-least (λ ts x is. phrase-level h f even ts x is)

sign-added : (h n : ℕ) → has (67 ∷ 68 ∷ []) (operator n) ≡ true → (ts : List Symbol) (t : Symbol) → Is (WholeAt h) (sign n) ts t → Adds ts 1
sign-added h n s ts t is =
    subst (λ (ss : List Symbol). Adds ss 1) (sym is.0) (mark-adds t (ap (has (67 ∷ 68 ∷ [])) (eqb-true t.sort (operator n) is.1) ∙ s))

-- a `;` or a `,`
pub one : (h n : ℕ) → has (67 ∷ 68 ∷ []) (operator n) ≡ true → AtLeast h (sign n) (λ t. 1)
one h n s = at-least (sign-added h n s)

-- a block has the `}` that closes it
pub in-braces : (h : ℕ) → AtLeast h block (λ x. 1)
in-braces h = at-least (λ ts x is. braces-add ts is)

braced-added : (h : ℕ) {A : Type 0} (g : Form A) → effect g ≡ closing → (ts : List Symbol) (x : A) → Is (WholeAt h) (behind (sign token.open_brace) g) ts x → Adds ts 1
braced-added h g e ts x is =
    let parts = is.1 in
    let closes = subst (λ (e : Effect). Levels e parts.1) e (phrase-levels h g parts.1 is.0.1 parts.4) in
    subst (λ (ss : List Symbol). Adds ss 1) (sym parts.2) (open-close parts.0 parts.1 (phrase-levels h (sign token.open_brace) parts.0 is.0.0 parts.3) closes)

-- a `{` before a form that closes it
pub in-braced : (h : ℕ) {A : Type 0} (g : Form A) → effect g ≡ closing → AtLeast h (behind (sign token.open_brace) g) (λ x. 1)
in-braced h g e = at-least (braced-added h g e)

pub weaker : {h : ℕ} {A : Type 0} {f : Form A} {s : A → ℕ} (t : A → ℕ) → AtLeast h f s → ((x : A) → t x ≤ s x) → AtLeast h f t
weaker t p le = at-least (λ ts x is. adds-less (p.added ts x is) (le x))

pub in-pair : {h : ℕ} {A B : Type 0} {f : Form A} {g : Form B} {s : A → ℕ} {t : B → ℕ} → AtLeast h f s → AtLeast h g t → AtLeast h (pair f g) (λ x. s x.0 + t x.1)
in-pair p q = at-least (λ ts x is. adds-both is.2 (p.added is.0 x.0 is.3) (q.added is.1 x.1 is.4))

pub in-turn : {h : ℕ} {A B : Type 0} {f : Form A} {s : A → ℕ} (k : A → B) (t : B → ℕ) → AtLeast h f s → ((x : A) → t (k x) ≤ s x) → AtLeast h (turn k f) t
in-turn k t p le = at-least (λ ts y is. adds-less (p.added ts is.0 is.1) (omega (arith, le is.0, ap t is.2)))

-- behind and before a form of at least this many
pub in-behind : {h : ℕ} {A B : Type 0} {g : Form B} {f : Form A} {t : A → ℕ} (n : ℕ) → AtLeast h g (λ y. n) → AtLeast h f t → AtLeast h (behind g f) (λ x. n + t x)
in-behind {t = t} n p q =
    at-least (λ ts x is. adds-less (adds-both is.1.2 (p.added is.1.0 is.0.0 is.1.3) (q.added is.1.1 is.0.1 is.1.4)) (omega (arith, ap t is.2)))

pub in-before : {h : ℕ} {A B : Type 0} {f : Form A} {g : Form B} {t : A → ℕ} (n : ℕ) → AtLeast h f t → AtLeast h g (λ y. n) → AtLeast h (before f g) (λ x. t x + n)
in-before {t = t} n p q =
    at-least (λ ts x is. adds-less (adds-both is.1.2 (p.added is.1.0 is.0.0 is.1.3) (q.added is.1.1 is.0.1 is.1.4)) (omega (arith, ap t is.2)))

maybe-added : {h : ℕ} {A : Type 0} {f : Form A} {s : A → ℕ} (t : Option A → ℕ) → AtLeast h f s → t None ≡ 0 → ((x : A) → t (Some x) ≤ s x)
    → (ts : List Symbol) (x : Option A) → Is (WholeAt h) (maybe f) ts x → Adds ts (t x)
maybe-added t p z le ts None is = adds-less (subst (λ (ss : List Symbol). Adds ss 0) (sym is) adds-nothing) (omega (arith, z))
maybe-added t p z le ts (Some x) is = adds-less (p.added ts x is) (le x)

pub in-maybe : {h : ℕ} {A : Type 0} {f : Form A} {s : A → ℕ} (t : Option A → ℕ) → AtLeast h f s → t None ≡ 0 → ((x : A) → t (Some x) ≤ s x) → AtLeast h (maybe f) t
in-maybe t p z le = at-least (maybe-added t p z le)

row-added : {h : ℕ} {A : Type 0} {f : Form A} {s : A → ℕ} (t : List A → ℕ) → AtLeast h f s → t [] ≡ 0 → ((x : A) (xs : List A) → t (x ∷ xs) ≤ s x + t xs)
    → (xs : List A) (ts : List Symbol) → Each (Is (WholeAt h) f) ts xs → Adds ts (t xs)
row-added t p z step [] ts each = adds-less (subst (λ (ss : List Symbol). Adds ss 0) (sym each) adds-nothing) (omega (arith, z))
row-added t p z step (x ∷ xs) ts each =
    adds-less (adds-both each.2 (p.added each.0 x each.3) (row-added t p z step xs each.1 each.4)) (step x xs)

-- a row of parts
pub in-row : {h : ℕ} {A : Type 0} {f : Form A} {s : A → ℕ} (t : List A → ℕ) → AtLeast h f s → t [] ≡ 0 → ((x : A) (xs : List A) → t (x ∷ xs) ≤ s x + t xs) → AtLeast h (many f) t
in-row t p z step = at-least (λ ts xs is. row-added t p z step xs ts is)

either-added : {h : ℕ} {A : Type 0} {f g : Form A} {s : A → ℕ} → AtLeast h f s → AtLeast h g s → (ts : List Symbol) (x : A) → Is (WholeAt h) (either f g) ts x → Adds ts (s x)
either-added p q ts x (inl is) = p.added ts x is
either-added p q ts x (inr is) = q.added ts x is

pub in-either : {h : ℕ} {A : Type 0} {f g : Form A} {s : A → ℕ} → AtLeast h f s → AtLeast h g s → AtLeast h (either f g) s
in-either p q = at-least (either-added p q)

-- two readings
pub in-attempt : {h : ℕ} {A : Type 0} {f g : Form A} {s : A → ℕ} → AtLeast h f s → AtLeast h g s → AtLeast h (attempt f g) s
in-attempt p q = at-least (either-added p q)

pub in-seen : {h : ℕ} {A B : Type 0} {f : Form A} {s : A → ℕ} (k : List Symbol → B) → AtLeast h f s → AtLeast h (seen k f) (λ x. s x.1)
in-seen k p = at-least (λ ts x is. p.added ts x.1 is.0)

-- a form that holds itself, at no height and one higher than its rule
pub nest-zero : (m : Nest) (s : Of m → ℕ) → AtLeast zero (nest m) s
nest-zero m s = at-least (λ ts x is. absurd is)

pub nest-suc : (h : ℕ) (m : Nest) (s : Of m → ℕ) → AtLeast h (rule m) s → AtLeast (suc h) (nest m) s
nest-suc h m s p = at-least (λ ts x is. p.added ts x is)
