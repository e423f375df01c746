-- The tokens of a text (JLS 3.2, 3.5): its characters are tokens and separators, one after another, each as long as it
-- can be.
-- `/*` always begins a comment and three `"` a text block. A last SUB character is passed over.
use Rattle.std.specs.Prelude.{◌≡◌, ◌≢◌, ◌⊎◌, ◌==◌, ◌&&◌, ◌||◌, not, ℕ, ◌+◌, ◌≤◌, Bool, false, List, [], ◌∷◌, ◌++◌, length, take, slice_index, bytes_eq, codes, Option, None, Some, if◌then◌else◌}
use Rattle.std.specs.Str.{encode_utf8_all}
use Rattle.case_table.specs.Rows.{number_of}
use Rattle.java_tokens.specs.declared.token.TokenKind.{TokenKind}
use Rattle.java_tokens.specs.declared.token.TokenKind.TheVariants.{Identifier, Reserved, Integer, Floating, Character, Text, TextBlock, Operator, Truth, Null}
use Rattle.java_tokens.specs.Words.{reserved_rows, operator_rows}
use Rattle.java_tokens.specs.Literals.{Is, separator, word, integer, floating, character, text, text_block}

-- a text is a token of a kind
abbrev pub IsToken : TokenKind → List ℕ → Type 0
IsToken Identifier t = Is word t × (number_of reserved_rows t ≡ None) × (t ≢ codes "true") × (t ≢ codes "false") × (t ≢ codes "null")
IsToken (Reserved n) t = Is word t × (number_of reserved_rows t ≡ Some n)
IsToken Integer t = Is integer t
IsToken Floating t = Is floating t
IsToken Character t = Is character t
IsToken Text t = Is text t
IsToken TextBlock t = Is text_block t
IsToken (Operator n) t = number_of operator_rows t ≡ Some n
IsToken Truth t = Is word t × ((t ≡ codes "true") ⊎ (t ≡ codes "false"))
IsToken Null t = Is word t × (t ≡ codes "null")

-- a text is a token of a kind, or separates
abbrev pub IsElement : Option TokenKind → List ℕ → Type 0
IsElement None t = Is separator t
IsElement (Some kind) t = IsToken kind t

-- a text begins with another
abbrev pub Begins : List ℕ → List ℕ → Type 0
Begins front text = (rest : List ℕ) × (text ≡ front ++ rest)

-- the token or separator at the front of a text
pub record IsNext (text front rest : List ℕ) (kind : Option TokenKind) : Type 0 where
  pub split : text ≡ front ++ rest
  pub element : IsElement kind front
  -- none that begins here is longer
  pub longest : (other : Option TokenKind) (longer after : List ℕ) → text ≡ longer ++ after → IsElement other longer → length longer ≤ length front
  pub comment : Begins (codes "/*") text → kind ≡ None
  pub block : Begins (codes "\"\"\"") text → kind ≡ Some TextBlock

-- nothing begins a text
abbrev pub HasNoNext : List ℕ → Type 0
HasNoNext text = (front rest : List ℕ) (kind : Option TokenKind) → ¬ IsNext text front rest kind

-- a token with its kind, or a separator with none
abbrev pub Element : Type 0
Element = Option TokenKind × List ℕ

-- a text is these tokens and separators, and then what is left
abbrev pub Reads : List ℕ → List Element → List ℕ → Type 0
Reads text [] rest = text ≡ rest
Reads text (e ∷ es) rest = (after : List ℕ) × IsNext text e.1 after e.0 × Reads after es rest

-- nothing is left but a SUB character
abbrev pub IsEnd : List ℕ → Type 0
IsEnd rest = (rest ≡ []) ⊎ (rest ≡ 26 ∷ [])

-- a text is these tokens and separators
abbrev pub AreElements : List ℕ → List Element → Type 0
AreElements text es = (rest : List ℕ) × Reads text es rest × IsEnd rest

-- behind this many characters neither the text ends nor a token or separator begins
abbrev pub IsStop : List ℕ → ℕ → Type 0
IsStop text place = (es : List Element) × (rest : List ℕ) × Reads text es rest × ¬ IsEnd rest × HasNoNext rest × (place + length rest ≡ length text)

-- a character ends a line: a CR, or a LF that follows no CR
abbrev pub ends_line : Bool → ℕ → Bool
ends_line after_return c = (c == 13) || ((c == 10) && not after_return)

-- the last character is a CR
abbrev pub returns : Bool → List ℕ → Bool
returns after_return [] = after_return
returns after_return (c ∷ cs) = returns (c == 13) cs

-- how many lines end in a text
abbrev pub line_ends : Bool → List ℕ → ℕ
line_ends after_return [] = 0
line_ends after_return (c ∷ cs) = (if ends_line after_return c then 1 else 0) + line_ends (c == 13) cs

-- the line of the character behind this many, counted from 1
abbrev pub line_at : List ℕ → ℕ → ℕ
line_at text before = 1 + line_ends false (take before text)

-- a separator is a doc comment: it begins with `/**`, and is not `/**/`
abbrev pub is_doc : List ℕ → Bool
is_doc t = bytes_eq (take 3 t) (codes "/**") && not (bytes_eq t (codes "/**/"))

-- a token as it is shown
pub record Lexeme : Type 0 where
  pub kind : TokenKind
  pub start : ℕ
  pub line : ℕ
  pub text : List ℕ
  pub doc : Option (List ℕ)

-- the tokens from one place on, where `doc` is the last doc comment since the token before; each with the offset of its
-- first character
abbrev pub tokens_from : List ℕ → List ℕ → ℕ → Option (List ℕ) → List Element → List Lexeme
tokens_from all offsets before doc [] = []
tokens_from all offsets before doc ((None, t) ∷ es) = tokens_from all offsets (before + length t) (if is_doc t then Some (encode_utf8_all t) else doc) es
tokens_from all offsets before doc ((Some kind, t) ∷ es) =
    record { kind = kind; start = slice_index offsets before; line = line_at all before; text = encode_utf8_all t; doc = doc } ∷ tokens_from all offsets (before + length t) None es

-- the tokens of a text whose characters have these offsets
abbrev pub AreTokens : List ℕ → List ℕ → List Lexeme → Type 0
AreTokens all offsets tokens = (es : List Element) × AreElements all es × (tokens ≡ tokens_from all offsets 0 None es)

-- the offset at which no list of tokens goes on
abbrev pub IsTokenFault : List ℕ → List ℕ → ℕ → Type 0
IsTokenFault text offsets offset = (place : ℕ) × IsStop text place × (offset ≡ slice_index offsets place)

-- a text has tokens or a place
abbrev pub HasTokens : List ℕ → List ℕ → Type 0
HasTokens text offsets = ((tokens : List Lexeme) × AreTokens text offsets tokens) ⊎ ((offset : ℕ) × IsTokenFault text offsets offset)
