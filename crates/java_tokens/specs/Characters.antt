-- The characters of a file: UTF-8, with Unicode escapes (JLS 3.3).
-- A `\` begins an escape only if an even number of `\` stand directly before it in the raw text. The character that an escape gives takes
-- no part in further escapes. A high and a low surrogate, both escapes, one directly after the other, give one character.
use Rattle.std.specs.Prelude.{◌≡◌, ◌≢◌, ◌⊎◌, ℕ, ◌+◌, ◌-◌, ◌*◌, ◌%◌, ◌<◌, ◌≤◌, List, [], ◌∷◌, ◌++◌, length, slice_index, if◌then◌else◌, encode_utf8, bytes_eq}
use Rattle.std.specs.Char.{IsScalar}
use Rattle.java_tokens.specs.Escapes.{IsEscape}

-- where this many `\` stand directly before, what follows begins an escape
pub record BeginsEscape (slashes : ℕ) (rest : List ℕ) : Type 0 where
  pub even : slashes % 2 ≡ 0
  pub after : List ℕ
  pub begins : rest ≡ 92 ∷ 117 ∷ after

-- no byte of a text is a `\`
abbrev pub IsPlain : List ℕ → Type 0
IsPlain text = (k : ℕ) → k < length text → slice_index text k ≢ 92

abbrev pub IsHigh : ℕ → Type 0
IsHigh value = (0xD800 ≤ value) × (value < 0xDC00)

abbrev pub IsLow : ℕ → Type 0
IsLow value = (0xDC00 ≤ value) × (value < 0xE000)

-- the character of two surrogates
abbrev pub joined : ℕ → ℕ → ℕ
joined high low = 0x1_0000 + (high - 0xD800) * 0x400 + (low - 0xDC00)

-- how a character is spelled, where this many `\` stand directly before and `after` follows
pub data Spells (slashes : ℕ) (spelling after : List ℕ) (code : ℕ) : Type 0 where
  -- in UTF-8, where no escape begins
  raw : IsScalar code → spelling ≡ encode_utf8 code → ¬ BeginsEscape slashes (spelling ++ after) → Spells slashes spelling after code
  -- by one escape
  escape : BeginsEscape slashes (spelling ++ after) → IsEscape spelling code → IsScalar code → Spells slashes spelling after code
  -- by two escapes, of a high and a low surrogate
  pair : (first second : List ℕ) (high low : ℕ) → BeginsEscape slashes (spelling ++ after) → spelling ≡ first ++ second → IsEscape first high → IsEscape second low → IsHigh high → IsLow low → code ≡ joined high low → Spells slashes spelling after code

-- a text begins with a character of this width
abbrev pub HasChar : ℕ → List ℕ → ℕ → ℕ → Type 0
HasChar slashes text width code = (spelling : List ℕ) × (after : List ℕ) × (text ≡ spelling ++ after) × (width ≡ length spelling) × Spells slashes spelling after code

-- a text begins with no character
abbrev pub HasNoChar : ℕ → List ℕ → Type 0
HasNoChar slashes text = (width code : ℕ) → ¬ HasChar slashes text width code

-- a text begins with this character in UTF-8
abbrev pub BeginsWith : List ℕ → ℕ → Type 0
BeginsWith text code = IsScalar code × ((rest : List ℕ) × (text ≡ encode_utf8 code ++ rest))

-- how many `\` stand directly before what follows a character that is spelled so
abbrev pub slashes_after : ℕ → List ℕ → ℕ
slashes_after slashes spelling = if bytes_eq spelling (92 ∷ []) then slashes + 1 else 0

-- a character with the offset at which it begins
abbrev pub Placed : Type 0
Placed = ℕ × ℕ

-- a part of a file spells these characters, the first at an offset; this many `\` stand directly before it and before what follows
abbrev pub Spelled : ℕ → ℕ → List ℕ → List Placed → List ℕ → ℕ → Type 0
Spelled slashes offset text [] rest slashes' = (text ≡ rest) × (slashes ≡ slashes')
Spelled slashes offset text (c ∷ cs) rest slashes' = (c.1 ≡ offset) × ((spelling : List ℕ) × (after : List ℕ) × (text ≡ spelling ++ after) × Spells slashes spelling after c.0 × Spelled (slashes_after slashes spelling) (offset + length spelling) after cs rest slashes')

-- the characters of a file, each with its offset
abbrev pub AreChars : List ℕ → List Placed → Type 0
AreChars file chars = (slashes : ℕ) × Spelled 0 0 file chars [] slashes

-- the place of the first escape or sequence at which no characters go on
abbrev pub IsCharFault : List ℕ → ℕ → Type 0
IsCharFault file place = (chars : List Placed) × (rest : List ℕ) × (slashes : ℕ) × Spelled 0 0 file chars rest slashes × (place + length rest ≡ length file) × (0 < length rest) × HasNoChar slashes rest

-- a file has a list of characters or a place
abbrev pub IsDecided : List ℕ → Type 0
IsDecided file = ((chars : List Placed) × AreChars file chars) ⊎ ((place : ℕ) × IsCharFault file place)
