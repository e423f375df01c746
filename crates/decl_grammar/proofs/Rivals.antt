-- What two readings of the same symbols must keep to, and forms all of whose two readings do.
use Rattle.std.proofs.Common.{◌≡◌, ℕ, ◌≤◌, Bool, true, false, List, [], ◌∷◌, ◌++◌, Option, Some, None, inl, inr}
use Rattle.std.specs.Prelude.{◌&&◌}
use Rattle.decl_grammar.specs.declared.symbol.Symbol.{Symbol}
use Rattle.decl_grammar.specs.Form.{Nest, Of, Form, terminal, pair, turn, maybe, many, either, nest, over, seen, attempt, Each, Wholes, Begun, Is, Begins}
use Rattle.decl_grammar.specs.Rule.{WholeAt}
use Rattle.decl_grammar.proofs.OneToken.{both, more_of}

-- what is whole at one height, or at any
abbrev pub Upto : Option ℕ → Wholes
Upto None m ts x = (h : ℕ) × WholeAt h m ts x
Upto (Some h) m ts x = WholeAt h m ts x

-- whole in one way; and where nothing continues the form, with the one meaning that the symbols have in another way
abbrev pub Sole : Wholes → Wholes → Wholes
Sole w v m ts x = w m ts x × (more_of m ≡ [] → (y : Of m) → v m ts y → x ≡ y)

-- Two readings: the same whole symbols mean the same to both (where those behind a part that both have in common do), neither goes on where the other one is whole, and the first one has at least as much open.
pub record Rivals (w : Wholes) (b : Begun) {A : Type 0} (f g : Form A) : Type 0 where
  pub agree : (l : Option ℕ) (ts : List Symbol) (x y : A) → Is (Sole w (Upto l)) f ts x → Is (Upto l) g ts y → x ≡ y
  pub first_ends : (us vs : List Symbol) (x : A) (n : ℕ) → Is w f us x → Begins w b g (us ++ vs) n → vs ≡ []
  pub other_ends : (us vs : List Symbol) (x : A) (n : ℕ) → Is w g us x → Begins w b f (us ++ vs) n → vs ≡ []
  pub dominated : (us : List Symbol) (m n : ℕ) → Begins w b f us m → Begins w b g us n → (k : ℕ) × (n ≤ k) × Begins w b f us k

-- all two readings in a form are so
abbrev pub Fair : Wholes → Begun → {A : Type 0} → Form A → Type 0
Fair w b (terminal k) = Unit {0}
Fair w b (pair f g) = Fair w b f × Fair w b g
Fair w b (turn h f) = Fair w b f
Fair w b (maybe f) = Fair w b f
Fair w b (many f) = Fair w b f
Fair w b (either f g) = Fair w b f × Fair w b g
Fair w b (seen h f) = Fair w b f
Fair w b (nest m) = Unit {0}
Fair w b (over opens) = Unit {0}
Fair w b (attempt f g) = Fair w b f × Fair w b g × Rivals w b f g

-- a form without two readings
abbrev pub plain : {A : Type 0} → Form A → Bool
plain (terminal k) = true
plain (pair f g) = plain f && plain g
plain (turn h f) = plain f
plain (maybe f) = plain f
plain (many f) = plain f
plain (either f g) = plain f && plain g
plain (seen h f) = plain f
plain (nest m) = true
plain (over opens) = true
plain (attempt f g) = false

pub fair-plain : (w : Wholes) (b : Begun) {A : Type 0} (f : Form A) → plain f ≡ true → Fair w b f
fair-plain w b (terminal k) e = tt
fair-plain w b (pair f g) e = let p = both (plain f) (plain g) e in (fair-plain w b f p.0, fair-plain w b g p.1)
fair-plain w b (turn h f) e = fair-plain w b f e
fair-plain w b (maybe f) e = fair-plain w b f e
fair-plain w b (many f) e = fair-plain w b f e
fair-plain w b (either f g) e = let p = both (plain f) (plain g) e in (fair-plain w b f p.0, fair-plain w b g p.1)
fair-plain w b (seen h f) e = fair-plain w b f e
fair-plain w b (nest m) e = tt
fair-plain w b (over opens) e = tt
fair-plain w b (attempt f g) e = absurd cc

-- ---- what is so of fewer forms that hold themselves is so of more

abbrev pub WholeUp : Wholes → Wholes → Type 0
WholeUp v w = (m : Nest) (ts : List Symbol) (x : Of m) → v m ts x → w m ts x

abbrev pub BegunUp : Begun → Begun → Type 0
BegunUp a b = (m : Nest) (ts : List Symbol) (n : ℕ) → a m ts n → b m ts n

each-up : {A : Type 0} (P Q : List Symbol → A → Type 0) → ((ts : List Symbol) (x : A) → P ts x → Q ts x) → (xs : List A) (ts : List Symbol) → Each P ts xs → Each Q ts xs
each-up P Q h [] ts each = each
each-up P Q h (x ∷ xs) ts each = (each.0, each.1, each.2, h each.0 x each.3, each-up P Q h xs each.1 each.4)

pub Is-up : (v w : Wholes) → WholeUp v w → {A : Type 0} (f : Form A) (ts : List Symbol) (x : A) → Is v f ts x → Is w f ts x
Is-up v w up (terminal k) ts x is = is
Is-up v w up (pair f g) ts x is = (is.0, is.1, is.2, Is-up v w up f is.0 x.0 is.3, Is-up v w up g is.1 x.1 is.4)
Is-up v w up (turn h f) ts x is = (is.0, Is-up v w up f ts is.0 is.1, is.2)
Is-up v w up (maybe f) ts None is = is
Is-up v w up (maybe f) ts (Some x) is = Is-up v w up f ts x is
Is-up v w up (many f) ts xs is = each-up (Is v f) (Is w f) (Is-up v w up f) xs ts is
Is-up v w up (either f g) ts x (inl is) = inl (Is-up v w up f ts x is)
Is-up v w up (either f g) ts x (inr is) = inr (Is-up v w up g ts x is)
Is-up v w up (seen h f) ts x is = (Is-up v w up f ts x.1 is.0, is.1)
Is-up v w up (nest m) ts x is = up m ts x is
Is-up v w up (over opens) ts x is = is
Is-up v w up (attempt f g) ts x (inl is) = inl (Is-up v w up f ts x is)
Is-up v w up (attempt f g) ts x (inr is) = inr (Is-up v w up g ts x is)

pub Begins-up : (v w : Wholes) (a b : Begun) → WholeUp v w → BegunUp a b → {A : Type 0} (f : Form A) (ts : List Symbol) (n : ℕ) → Begins v a f ts n → Begins w b f ts n
Begins-up v w a b up on (terminal k) ts n p = p
Begins-up v w a b up on (pair f g) ts n (inl p) = inl (Begins-up v w a b up on f ts n p)
Begins-up v w a b up on (pair f g) ts n (inr q) = inr (q.0, q.1, q.2, q.3, Is-up v w up f q.0 q.2 q.4, Begins-up v w a b up on g q.1 n q.5)
Begins-up v w a b up on (turn h f) ts n p = Begins-up v w a b up on f ts n p
Begins-up v w a b up on (maybe f) ts n p = Begins-up v w a b up on f ts n p
Begins-up v w a b up on (many f) ts n q = (q.0, q.1, q.2, q.3, each-up (Is v f) (Is w f) (Is-up v w up f) q.2 q.0 q.4, Begins-up v w a b up on f q.1 n q.5)
Begins-up v w a b up on (either f g) ts n (inl p) = inl (Begins-up v w a b up on f ts n p)
Begins-up v w a b up on (either f g) ts n (inr p) = inr (Begins-up v w a b up on g ts n p)
Begins-up v w a b up on (seen h f) ts n p = Begins-up v w a b up on f ts n p
Begins-up v w a b up on (nest m) ts n (inl p) = inl p
Begins-up v w a b up on (nest m) ts n (inr q) = inr (q.0, q.1, q.2, q.3, q.4, on m ts q.2 q.5)
Begins-up v w a b up on (over opens) ts n p = p
Begins-up v w a b up on (attempt f g) ts n (inl p) = inl (Begins-up v w a b up on f ts n p)
Begins-up v w a b up on (attempt f g) ts n (inr p) = inr (Begins-up v w a b up on g ts n p)

pub sole-up : (w v : Wholes) → WholeUp (Sole w v) w
sole-up w v m ts x p = p.0
