-- Tables of texts and numbers.
use Rattle.std.specs.Prelude.{◌≡◌, ◌≢◌, ◌⊎◌, ◌==◌, ℕ, ◌<◌, Bool, true, ◌&&◌, is_none, List, [], ◌∷◌, length, map, slice_index, bytes_eq, if◌then◌else◌, Option, None, Some, option_map, unwrap_or, slice_get}
use denote.Ref.{Bor}

-- a row as code has it: a borrowed text and its number
abbrev pub Row : Type 0
Row = Bor (List ℕ) × ℕ

-- a row's text and number
abbrev pub shown : List Row → List (List ℕ × ℕ)
shown rows = map (λ r. (r.0.now, r.1)) rows

-- the number of a text: that of the first row that has it
abbrev pub number_of : List (List ℕ × ℕ) → List ℕ → Option ℕ
number_of [] word = None
number_of (r ∷ rs) word = if bytes_eq r.0 word then Some r.1 else number_of rs word

-- the text of a number: that of the first row that has it
abbrev pub text_of : List (List ℕ × ℕ) → ℕ → Option (List ℕ)
text_of [] number = None
text_of (r ∷ rs) number = if r.1 == number then Some r.0 else text_of rs number

-- no text and no number stands twice, as a test that computes
abbrev pub is_table : List (List ℕ × ℕ) → Bool
is_table [] = true
is_table (r ∷ rs) = is_none (number_of rs r.0) && (is_none (text_of rs r.1) && is_table rs)

-- the text at a place
abbrev pub text_at : List Row → ℕ → List ℕ
text_at rows k = unwrap_or (option_map (λ r. r.0.now) (slice_get rows k)) []

-- the number at a place
abbrev pub number_at : List Row → ℕ → ℕ
number_at rows k = unwrap_or (option_map (λ r. r.1) (slice_get rows k)) 0

-- two rows have one text or one number
abbrev pub Clash : List Row → Type 0
Clash rows = (i : ℕ) × (j : ℕ) × (i < j) × (j < length rows) × ((text_at rows i ≡ text_at rows j) ⊎ (number_at rows i ≡ number_at rows j))

-- no two rows do
pub record IsTable (rows : List Row) : Type 0 where
  pub texts : (i j : ℕ) → i < j → j < length rows → text_at rows i ≢ text_at rows j
  pub numbers : (i j : ℕ) → i < j → j < length rows → number_at rows i ≢ number_at rows j

-- a place among the first rows has the text
abbrev pub HasText : List Row → ℕ → List ℕ → ℕ → Type 0
HasText rows count word k = (k < count) × (text_at rows k ≡ word)

-- none of the first rows has the text
abbrev pub LacksText : List Row → ℕ → List ℕ → Type 0
LacksText rows count word = (k : ℕ) → k < count → text_at rows k ≢ word

-- the byte by which a text is looked up: its first, and 0 of an empty text
abbrev pub key_of : List ℕ → ℕ
key_of bytes = slice_index bytes 0
