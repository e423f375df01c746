-- How the table is followed, and what a text is by it. These say what the functions of the crate compute; that this is
-- what `Tokens` says is proved of `tokens`.
use Rattle.std.specs.Prelude.{◌≡◌, ◌≢◌, ◌⊎◌, Bool, true, false, ℕ, zero, suc, ◌+◌, ◌*◌, ◌<◌, ◌≤◌, nat_lt, List, [], ◌∷◌, length, take, map, slice_index, bytes_eq, Option, None, Some, if◌then◌else◌}
use Rattle.std.specs.Str.{chars, encode_utf8_all}
use Rattle.case_table.specs.Rows.{number_of}
use Rattle.java_tokens.specs.declared.token.TokenKind.{TokenKind}
use Rattle.java_tokens.specs.declared.token.TokenKind.TheVariants.{Identifier, Reserved, Integer, Floating, Character, Text, TextBlock, Operator, Truth, Null}
use Rattle.java_tokens.specs.declared.automaton.TheConstants.{STEPS, CLASSES}
use Rattle.java_tokens.specs.Words.{word_rows, operator_rows}
use Rattle.java_tokens.specs.Sorts.{sort_of}
use Rattle.java_tokens.specs.Tokens.{IsNext}

-- the state after a character of a sort
abbrev pub after : ℕ → ℕ → ℕ
after state sort = slice_index STEPS (state * 26 + sort)

-- the class of the texts that lead to a state, 7 for none
abbrev pub class_at : ℕ → ℕ
class_at state = slice_index CLASSES state

-- the state after a text
abbrev pub run : ℕ → List ℕ → ℕ
run s [] = s
run s (k ∷ ks) = run (after s k) ks

-- the state that a text leads to, and its class
abbrev pub state_of : List ℕ → ℕ
state_of t = run 0 (map sort_of t)

abbrev pub class_of : List ℕ → ℕ
class_of t = class_at (state_of t)

-- what the reserved word with a number is: a keyword, or a literal behind them
abbrev pub reserved_kind : ℕ → TokenKind
reserved_kind n = if nat_lt n 51 then Reserved n else (if nat_lt n 53 then Truth else Null)

abbrev pub word_by : Option ℕ → TokenKind
word_by (Some n) = reserved_kind n
word_by None = Identifier

-- what a word is
abbrev pub word_kind : List ℕ → TokenKind
word_kind t = word_by (number_of word_rows t)

abbrev pub operator_by : Option ℕ → Option (Option TokenKind)
operator_by (Some n) = Some (Some (Operator n))
operator_by None = None

-- what a text of a class is
abbrev pub kind_by : ℕ → List ℕ → Option (Option TokenKind)
kind_by zero t = Some None
kind_by (suc zero) t = Some (Some (word_kind t))
kind_by (suc (suc zero)) t = Some (Some Integer)
kind_by (suc (suc (suc zero))) t = Some (Some Floating)
kind_by (suc (suc (suc (suc zero)))) t = Some (Some Character)
kind_by (suc (suc (suc (suc (suc zero))))) t = Some (Some Text)
kind_by (suc (suc (suc (suc (suc (suc zero)))))) t = Some (Some TextBlock)
kind_by (suc (suc (suc (suc (suc (suc (suc n))))))) t = operator_by (number_of operator_rows t)

-- what a text is: a token of a kind, a separator, or neither
abbrev pub kind_of : List ℕ → Option (Option TokenKind)
kind_of t = kind_by (class_of t) t

-- it is no token
abbrev pub separates : Option TokenKind → Bool
separates None = true
separates (Some kind) = false

abbrev pub is_text_block : Option TokenKind → Bool
is_text_block (Some TextBlock) = true
is_text_block kind = false

-- how many bytes spell this many characters
abbrev pub bytes_of : List ℕ → ℕ → ℕ
bytes_of cs n = length (encode_utf8_all (take n cs))

-- of the fronts of at most `n` characters that of `m` is the longest that has a class
pub record IsLongest (cs : List ℕ) (n m class : ℕ) : Type 0 where
  pub within : m ≤ n
  pub known : class < 7
  pub found : class_of (take m cs) ≡ class
  pub past : (j : ℕ) → m < j → j ≤ n → class_of (take j cs) ≡ 7

-- none of them has
pub record IsUnknown (cs : List ℕ) (n : ℕ) : Type 0 where
  pub none : (j : ℕ) → j ≤ n → class_of (take j cs) ≡ 7

-- the longest front that the table knows is spelled by this many bytes
abbrev pub IsFound : List ℕ → ℕ → ℕ → ℕ → Type 0
IsFound cs n width class = (m : ℕ) × IsLongest cs n m class × (width ≡ bytes_of cs m)

-- of all fronts of a text in UTF-8 that is the longest, and none has a class
abbrev pub IsFoundFront : List ℕ → ℕ → ℕ → Type 0
IsFoundFront text width class = IsFound (chars text) (length (chars text)) width class

abbrev pub IsUnknownText : List ℕ → Type 0
IsUnknownText text = IsUnknown (chars text) (length (chars text))

-- the longest front that is an operator
pub record IsOperatorFront (bytes : List ℕ) (width number : ℕ) : Type 0 where
  pub within : width ≤ length bytes
  pub found : number_of operator_rows (take width bytes) ≡ Some number
  pub past : (j : ℕ) → width < j → j ≤ length bytes → number_of operator_rows (take j bytes) ≡ None

pub record HasNoOperator (bytes : List ℕ) : Type 0 where
  pub none : (j : ℕ) → j ≤ length bytes → number_of operator_rows (take j bytes) ≡ None

-- the longest of the fronts of at most this many characters that is a token or separator
pub record IsBest (cs : List ℕ) (n m : ℕ) (k : Option TokenKind) : Type 0 where
  pub within : m ≤ n
  pub found : kind_of (take m cs) ≡ Some k
  pub past : (j : ℕ) → m < j → j ≤ n → kind_of (take j cs) ≡ None

-- none of them is
pub record HasNone (cs : List ℕ) (n : ℕ) : Type 0 where
  pub none : (j : ℕ) → j ≤ n → kind_of (take j cs) ≡ None

-- the longest front is spelled by this many bytes
abbrev pub IsBestFront : List ℕ → ℕ → Option TokenKind → Type 0
IsBestFront cs width kind = (m : ℕ) × IsBest cs (length cs) m kind × (width ≡ bytes_of cs m)

-- the same of a text in UTF-8
abbrev pub IsBestIn : List ℕ → ℕ → Option TokenKind → Type 0
IsBestIn text width kind = IsBestFront (chars text) width kind

-- no front of it is a token or separator
abbrev pub HasNoFront : List ℕ → Type 0
HasNoFront text = HasNone (chars text) (length (chars text))

-- the token or separator at the front is spelled by this many bytes
abbrev pub IsFront : List ℕ → ℕ → Option TokenKind → Type 0
IsFront cs width kind = (front rest : List ℕ) × IsNext cs front rest kind × (width ≡ length (encode_utf8_all front))

-- a text begins with another, and what is found there is something else
abbrev pub Clashes : List ℕ → List ℕ → Bool → Type 0
Clashes front bytes is = (bytes_eq (take (length front) bytes) front ≡ true) × (is ≡ false)

-- it does not begin so, or is what it should be
abbrev pub Passes : List ℕ → List ℕ → Bool → Type 0
Passes front bytes is = (bytes_eq (take (length front) bytes) front ≡ false) ⊎ (is ≡ true)

-- a text begins with `/` and this byte, which is `/` or `*`
abbrev pub BeginsComment : ℕ → List ℕ → Type 0
BeginsComment second text = (1 < length text) × (slice_index text 0 ≡ 47) × (slice_index text 1 ≡ second)

-- this many of the bytes stand before the first CR or LF
pub record IsLineLength (bytes : List ℕ) (n : ℕ) : Type 0 where
  pub within : n ≤ length bytes
  pub before : (k : ℕ) → k < n → (slice_index bytes k ≢ 13) × (slice_index bytes k ≢ 10)
  pub ends : n < length bytes → (slice_index bytes n ≡ 13) ⊎ (slice_index bytes n ≡ 10)
