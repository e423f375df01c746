-- Unicode escapes (JLS 3.3): a backslash, one or more `u`, and four hexadecimal digits.
use Rattle.std.specs.Prelude.{◌≡◌, ℕ, ◌+◌, ◌*◌, ◌<◌, List, [], ◌∷◌, ◌++◌, length, replicate}
use Rattle.std.specs.Char.{digit_value}

-- four hexadecimal digits and their value
pub record IsHex (digits : List ℕ) (value : ℕ) : Type 0 where
  pub a : ℕ
  pub b : ℕ
  pub c : ℕ
  pub d : ℕ
  pub four : digits ≡ a ∷ b ∷ c ∷ d ∷ []
  pub a_digit : digit_value a < 16
  pub b_digit : digit_value b < 16
  pub c_digit : digit_value c < 16
  pub d_digit : digit_value d < 16
  pub sum : value ≡ ((digit_value a * 16 + digit_value b) * 16 + digit_value c) * 16 + digit_value d

-- an escape and its value
pub record IsEscape (spelling : List ℕ) (value : ℕ) : Type 0 where
  -- how many `u` follow the first
  pub more : ℕ
  pub digits : List ℕ
  pub spelled : spelling ≡ 92 ∷ 117 ∷ (replicate more 117 ++ digits)
  pub hex : IsHex digits value

-- none of the digits spell a value
abbrev pub NotHex : List ℕ → Type 0
NotHex digits = (value : ℕ) → ¬ IsHex digits value

-- bytes begin with an escape of this width
abbrev pub HasEscape : List ℕ → ℕ → ℕ → Type 0
HasEscape bytes width value = (rest : List ℕ) × (spelling : List ℕ) × (bytes ≡ spelling ++ rest) × (width ≡ length spelling) × IsEscape spelling value

-- bytes begin with no escape
abbrev pub NoEscape : List ℕ → Type 0
NoEscape bytes = (width value : ℕ) → ¬ HasEscape bytes width value
