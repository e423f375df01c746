-- What holds of every way of reading from the front of bytes that is described here: what stands behind a value does not matter, and of bytes that go wrong the first bad one is found as soon as it is there.
use Rattle.std.specs.Prelude.{◌≡◌, ℕ, ◌<◌, List, ◌∷◌, ◌++◌, get_or}
use Rattle.frame_forms.specs.declared.bad_kind.BadKind.{BadKind}
use Rattle.frame_forms.specs.Scans.{Scan, whole, begun, bad}

-- the value takes the bytes up to the rest, whatever comes behind them
pub record Takes {A : Type 0} (scan : List ℕ → Scan A) (bytes : List ℕ) (a : A) (rest : List ℕ) : Type 0 where
  pub used : List ℕ
  pub split : bytes ≡ used ++ rest
  pub again : (later : List ℕ) → scan (used ++ later) ≡ whole a later

-- The rest begins with the first bad byte: none of those before it is bad, and this one is, whatever comes behind it.
pub record Stops {A : Type 0} (scan : List ℕ → Scan A) (bytes rest : List ℕ) (kind : BadKind) : Type 0 where
  pub front : List ℕ
  pub byte : ℕ
  pub more : List ℕ
  pub split : bytes ≡ front ++ byte ∷ more
  pub from : rest ≡ byte ∷ more
  pub before : scan front ≡ begun
  pub after : (later : List ℕ) → scan (front ++ byte ∷ later) ≡ bad (byte ∷ later) kind

pub record Steady {A : Type 0} (scan : List ℕ → Scan A) : Type 0 where
  pub takes : (bytes : List ℕ) (a : A) (rest : List ℕ) → scan bytes ≡ whole a rest → Takes scan bytes a rest
  pub stops : (bytes rest : List ℕ) (kind : BadKind) → scan bytes ≡ bad rest kind → Stops scan bytes rest kind

-- ---- reading and spelling

-- each is a byte
abbrev pub IsBytes : List ℕ → Type 0
IsBytes bytes = (i : ℕ) → get_or bytes i 0 < 256

-- what is read fits, and is spelled so
abbrev pub Spells : {A : Type 0} → (List ℕ → Scan A) → (A → Type 0) → (A → List ℕ) → Type 0
Spells {A} scan fits spelling = (bytes : List ℕ) (a : A) (rest : List ℕ) → IsBytes bytes → scan bytes ≡ whole a rest → fits a × (bytes ≡ spelling a ++ rest)

-- the same, and a value that fits is read from its spelling, whatever comes behind it
pub record Meets {A : Type 0} (scan : List ℕ → Scan A) (fits : A → Type 0) (spelling : A → List ℕ) : Type 0 where
  pub again : (a : A) (rest : List ℕ) → fits a → scan (spelling a ++ rest) ≡ whole a rest
  pub spelled : Spells scan fits spelling
