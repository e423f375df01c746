-- When a case passes: what its file gives is what is expected.
use Rattle.std.specs.Prelude.{◌≡◌, ◌⊎◌, ℕ, ◌≤◌, List, length, map, Bool, MatchBool}
use Rattle.std.specs.Str.{encode_utf8_all}
use Rattle.apt_base.specs.Limits.{max_file_bytes}
use Rattle.java_tokens.specs.declared.chars.Chars.{Chars}
use Rattle.java_tokens.specs.Characters.{Placed, AreChars, IsCharFault}
use Rattle.java_tokens.specs.Tokens.{Lexeme, AreTokens, IsTokenFault}
use Rattle.java_tokens.specs.TokensShown.{codes_in, offsets_in, shown_tokens}
use Rattle.vector_tables.specs.declared.case.Case.{Case}
use Rattle.vector_tables.specs.declared.case.Expected.{Expected}
use Rattle.vector_tables.specs.declared.case.Expected.TheVariants.{Characters, NoCharacters, Tokens, NoTokens}

-- a test says whether it holds
abbrev pub Tells : Bool → Type 0 → Type 0
Tells test P = MatchBool test P (¬ P)

-- what a file is to give
pub data Wanted : Type 0 where
  -- these characters, in UTF-8
  characters : List ℕ → Wanted
  -- none: the first fault has this offset
  no_characters : ℕ → Wanted
  -- these tokens
  tokens : List Lexeme → Wanted
  -- characters and no tokens: the first fault has this offset
  no_tokens : ℕ → Wanted

-- a file with what it is to give
pub record Row : Type 0 where
  pub file : List ℕ
  pub wanted : Wanted

abbrev pub shown_expected : Expected → Wanted
shown_expected (Characters text) = characters text.now
shown_expected (NoCharacters place) = no_characters place
shown_expected (Tokens list) = tokens (shown_tokens list.now)
shown_expected (NoTokens place) = no_tokens place

abbrev pub shown_case : Case → Row
shown_case case = record { file = case.file.now; wanted = shown_expected case.expected }

-- two tokens have the same kind, offset, line, text and doc comment
pub record IsAlike (a b : Lexeme) : Type 0 where
  pub kind : a.kind ≡ b.kind
  pub start : a.start ≡ b.start
  pub line : a.line ≡ b.line
  pub text : a.text ≡ b.text
  pub doc : a.doc ≡ b.doc

-- characters with these offsets give what is wanted
abbrev pub GivenBy : List ℕ → List ℕ → Wanted → Type 0
GivenBy codes offsets (characters text) = encode_utf8_all codes ≡ text
GivenBy codes offsets (no_characters place) = ⊥
GivenBy codes offsets (tokens list) = AreTokens codes offsets list
GivenBy codes offsets (no_tokens place) = IsTokenFault codes offsets place

-- characters that were read do
abbrev pub IsGiven : Chars → Expected → Type 0
IsGiven chars expected = GivenBy (codes_in chars) (offsets_in chars) (shown_expected expected)

-- a file gives what is wanted: its characters do, or it has none and the place of the first fault is wanted
abbrev pub Gives : List ℕ → Wanted → Type 0
Gives file wanted =
    ((all : List Placed) × AreChars file all × GivenBy (map (λ c. c.0) all) (map (λ c. c.1) all) wanted) ⊎ ((place : ℕ) × IsCharFault file place × (wanted ≡ no_characters place))

-- a row holds: its file is no longer than can be read, and gives what is wanted
abbrev pub Holds : Row → Type 0
Holds row = (length row.file ≤ max_file_bytes) × Gives row.file row.wanted

-- a case passes
abbrev pub IsPassed : Case → Type 0
IsPassed case = Holds (shown_case case)
