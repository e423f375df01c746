-- What is known of the forms that hold themselves, whatever is asked of two readings, at each height and at any.
use Rattle.std.proofs.Common.{◌≡◌, ℕ, zero, suc, ◌≤◌, Bool, true, false, cond, [], ◌∷◌, ◌++◌, Option, Some, None, refl, ap, arith}
use Rattle.decl_grammar.specs.declared.symbol.Symbol.{Symbol}
use Rattle.decl_grammar.specs.Reading.{has}
use Rattle.decl_grammar.specs.Form.{Nest, counts, opened, first_of, nullable, first, Wholes, Begun, Begins}
use Rattle.decl_grammar.specs.Rule.{rule, WholeAt, BegunAt}
use Rattle.decl_grammar.proofs.OneToken.{not_both, within-has, rank}
use Rattle.decl_grammar.proofs.Rules.{rule-first, rule-within, rule-full, rule-guarded}
use Rattle.decl_grammar.proofs.Opens.{opens-form}
use Rattle.decl_grammar.proofs.Heads.{Full, WholeHeads, BegunHeads, WholeBegins, Is-nil, Is-head, Begins-head, Is-begins}
use Rattle.decl_grammar.proofs.Fronts.{NestFronts, Begins-front}
use Rattle.decl_grammar.proofs.Rivals.{Upto, WholeUp, BegunUp, Fair}
use Rattle.decl_grammar.proofs.Open.{Most, open-most}

-- a symbol that may begin such a form does
pub opens-at : (h : ℕ) (m : Nest) → rank m ≤ h → (t : Symbol) → has (first_of m) t.sort ≡ true → (n : ℕ) × Begins (WholeAt h) (BegunAt h) (rule m) (t ∷ []) n
opens-at zero m le t e =
    opens-form (WholeAt zero) (BegunAt zero) (rank m) (λ n lt t e. absurd (omega (arith, lt, le))) (rule m) (rule-guarded m) t (within-has (first_of m) (first (rule m)) t.sort (rule-within m) e)
opens-at (suc h) m le t e =
    opens-form (WholeAt (suc h)) (BegunAt (suc h)) (rank m) (λ n lt t e. opens-at h n (omega (arith, lt, le)) t e) (rule m) (rule-guarded m) t (within-has (first_of m) (first (rule m)) t.sort (rule-within m) e)

pub opened-counted : (m : Nest) (k : ℕ) → counts m ≡ true → opened m k ≡ suc k
opened-counted m k e = ap (λ (c : Bool). cond c (suc k) k) e

pub opened-free : (m : Nest) (k : ℕ) → counts m ≡ false → opened m k ≡ k
opened-free m k e = ap (λ (c : Bool). cond c (suc k) k) e

-- ---- the laws

pub full-at : (h : ℕ) → Full (WholeAt h)
full-at zero m x is = is
full-at (suc h) m x is = not_both (nullable (rule m)) (Is-nil (WholeAt h) (full-at h) (rule m) [] x refl is) (rule-full m)

pub heads-at : (h : ℕ) → WholeHeads (WholeAt h)
heads-at zero m t ts x is = absurd is
heads-at (suc h) m t ts x is = within-has (first (rule m)) (first_of m) t.sort (rule-first m) (Is-head (WholeAt h) (full-at h) (heads-at h) (rule m) t ts x (t ∷ ts) refl is)

pub bheads-at : (h : ℕ) → BegunHeads (BegunAt h)
bheads-at zero m t ts n b = absurd b
bheads-at (suc h) m t ts n b = within-has (first (rule m)) (first_of m) t.sort (rule-first m) (Begins-head (WholeAt h) (BegunAt h) (full-at h) (heads-at h) (bheads-at h) (rule m) t ts n (t ∷ ts) refl b)

pub begins-at : (h : ℕ) → WholeBegins (WholeAt h) (BegunAt h)
begins-at zero m ts x is = absurd is
begins-at (suc h) m ts x is = Is-begins (WholeAt h) (BegunAt h) (full-at h) (begins-at h) (rule m) ts x is

pub fronts-at : (h : ℕ) → NestFronts (BegunAt h)
fronts-at zero m us vs k b = absurd b
fronts-at (suc h) m us vs k b = Begins-front (WholeAt h) (BegunAt h) (full-at h) (begins-at h) (fronts-at h) (rule m) (us ++ vs) us vs k refl b

pub most-at : (h : ℕ) → Most (BegunAt h)
most-at zero m t us k b = absurd b
most-at (suc h) m t us k b = open-most (WholeAt h) (BegunAt h) (full-at h) (most-at h) (rank m) (rule m) (rule-guarded m) t us (t ∷ us) k refl b

-- ---- what is so at any height

abbrev pub Whole : Wholes
Whole m ts x = (h : ℕ) × WholeAt h m ts x

abbrev pub Started : Begun
Started m ts n = (h : ℕ) × BegunAt h m ts n

pub whole-up : (h : ℕ) → WholeUp (WholeAt h) Whole
whole-up h m ts x is = (h, is)

pub started-up : (h : ℕ) → BegunUp (BegunAt h) Started
started-up h m ts n b = (h, b)

pub full-any : Full Whole
full-any m x is = full-at is.0 m x is.1

pub heads-any : WholeHeads Whole
heads-any m t ts x is = heads-at is.0 m t ts x is.1

pub bheads-any : BegunHeads Started
bheads-any m t ts n b = bheads-at b.0 m t ts n b.1

pub begins-any : WholeBegins Whole Started
begins-any m ts x is = let p = begins-at is.0 m ts x is.1 in (p.0, (is.0, p.1))

pub fronts-any : NestFronts Started
fronts-any m us vs k b = let p = fronts-at b.0 m us vs k b.1 in (p.0, (b.0, p.1))

pub upto-any : (l : Option ℕ) → WholeUp (Upto l) Whole
upto-any None m ts x is = is
upto-any (Some h) m ts x is = (h, is)

-- the two readings in all forms that hold themselves keep to what they must
abbrev pub AllFair : Type 0
AllFair = (m : Nest) → Fair Whole Started (rule m)
