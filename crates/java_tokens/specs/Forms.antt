-- Regular forms of texts, over the sorts of their characters.
use Rattle.std.specs.Prelude.{◌≡◌, ◌⊎◌, ◌==◌, ◌||◌, ℕ, Bool, false, IsTrue, List, [], ◌∷◌, ◌++◌}

-- a number stands in a list, as a test that computes
abbrev pub among : List ℕ → ℕ → Bool
among [] n = false
among (m ∷ ms) n = (m == n) || among ms n

pub data Form : Type 0 where
  -- no text is of it
  nothing : Form
  -- the empty text
  empty : Form
  -- one character of one of these sorts
  one : List ℕ → Form
  -- a text of the one form or of the other
  either : Form → Form → Form
  -- a text of the first form with one of the second after it
  both : Form → Form → Form
  -- any number of texts of a form, one after another
  many : Form → Form

-- parts that each are of a form, one after another
pub data Repeats (P : List ℕ → Type 0) : List ℕ → Type 0 where
  none : (t : List ℕ) → t ≡ [] → Repeats P t
  more : (t a b : List ℕ) → t ≡ a ++ b → P a → Repeats P b → Repeats P t

-- a text with characters of these sorts is of a form
abbrev pub IsOf : Form → List ℕ → Type 0
IsOf nothing t = ⊥
IsOf empty t = t ≡ []
IsOf (one sorts) t = (s : ℕ) × (t ≡ s ∷ []) × IsTrue (among sorts s)
IsOf (either f g) t = IsOf f t ⊎ IsOf g t
IsOf (both f g) t = (a b : List ℕ) × (t ≡ a ++ b) × IsOf f a × IsOf g b
IsOf (many f) t = Repeats (IsOf f) t

infixr 20 ◌or◌
abbrev pub ◌or◌ : Form → Form → Form
f or g = either f g

infixr 30 ◌then◌
abbrev pub ◌then◌ : Form → Form → Form
f then g = both f g

-- a text of the form, or none
abbrev pub optional : Form → Form
optional f = either f empty
