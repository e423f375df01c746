-- What the most that is counted within the same braces reaches in a phrase of a form, by what the phrase means: one lemma for each way to make forms of others.
use Rattle.std.proofs.Common.{ℕ, ◌+◌, ◌≤◌, List, inl, inr, ap, arith}
use Rattle.decl_grammar.specs.declared.symbol.Symbol.{Symbol}
use Rattle.decl_grammar.specs.Form.{Form, pair, turn, either, Is}
use Rattle.decl_grammar.specs.Types.{behind, before}
use Rattle.decl_grammar.specs.Rule.{WholeAt}
use Rattle.decl_limits.specs.Separators.{Scan, scanned}
use Rattle.decl_limits.proofs.Scans.{whole-most, more-most, bounded, Adds}
use Rattle.decl_limits.proofs.Counted.{AtLeast}

-- of phrases that stand at most this high, behind symbols of which no count is above the most
pub record Reaches (h : ℕ) {A : Type 0} (f : Form A) (reach : A → ℕ) : Type 0 where
  pub there : (ts : List Symbol) (x : A) → Is (WholeAt h) f ts x → (s : Scan) → s.count ≤ s.most → reach x ≤ (scanned s ts).most

pub reach-added : {ts : List Symbol} {k : ℕ} → Adds ts k → (s : Scan) → s.count ≤ s.most → s.count + k ≤ (scanned s ts).most
reach-added {ts = ts} p s le = omega (arith, p.adds s, bounded ts s le)

pub reach-least : {h : ℕ} {A : Type 0} {f : Form A} {r : A → ℕ} → AtLeast h f r → Reaches h f r
reach-least p = record { there = λ ts x is s le. omega (arith, reach-added (p.added ts x is) s le) }

pub reach-less : {h : ℕ} {A : Type 0} {f : Form A} {r : A → ℕ} (t : A → ℕ) → Reaches h f r → ((x : A) → t x ≤ r x) → Reaches h f t
reach-less t p less = record { there = λ ts x is s le. omega (arith, p.there ts x is s le, less x) }

-- the first one of two, and the other one
pub reach-first : {h : ℕ} {A B : Type 0} {f : Form A} {r : A → ℕ} (g : Form B) → Reaches h f r → Reaches h (pair f g) (λ x. r x.0)
reach-first g p = record {
  there = λ ts x is s le. omega (arith, p.there is.0 x.0 is.3 s le, more-most is.1 (scanned s is.0), whole-most is.0 is.1 is.2 s);
}

pub reach-second : {h : ℕ} {A B : Type 0} {g : Form B} {r : B → ℕ} (f : Form A) → Reaches h g r → Reaches h (pair f g) (λ x. r x.1)
reach-second f q = record {
  there = λ ts x is s le. omega (arith, q.there is.1 x.1 is.4 (scanned s is.0) (bounded is.0 s le), whole-most is.0 is.1 is.2 s);
}

pub reach-turn : {h : ℕ} {A B : Type 0} {f : Form A} {r : A → ℕ} (k : A → B) (t : B → ℕ) → Reaches h f r → ((x : A) → t (k x) ≤ r x) → Reaches h (turn k f) t
reach-turn k t p less = record { there = λ ts y is s le. omega (arith, p.there ts is.0 is.1 s le, less is.0, ap t is.2) }

pub reach-behind : {h : ℕ} {A B : Type 0} {f : Form A} {r : A → ℕ} (g : Form B) → Reaches h f r → Reaches h (behind g f) r
reach-behind {r = r} g p = record { there = λ ts x is s le. omega (arith, (reach-second g p).there ts is.0 is.1 s le, ap r is.2) }

pub reach-before : {h : ℕ} {A B : Type 0} {f : Form A} {r : A → ℕ} (g : Form B) → Reaches h f r → Reaches h (before f g) r
reach-before {r = r} g p = record { there = λ ts x is s le. omega (arith, (reach-first g p).there ts is.0 is.1 s le, ap r is.2) }

either-reached : {h : ℕ} {A : Type 0} {f g : Form A} {r : A → ℕ} → Reaches h f r → Reaches h g r → (ts : List Symbol) (x : A) → Is (WholeAt h) (either f g) ts x
    → (s : Scan) → s.count ≤ s.most → r x ≤ (scanned s ts).most
either-reached p q ts x (inl is) s le = p.there ts x is s le
either-reached p q ts x (inr is) s le = q.there ts x is s le

pub reach-either : {h : ℕ} {A : Type 0} {f g : Form A} {r : A → ℕ} → Reaches h f r → Reaches h g r → Reaches h (either f g) r
reach-either p q = record { there = either-reached p q }
