-- How the tokens of a text are read one after another.
use Rattle.std.specs.Prelude.{◌≡◌, ℕ, ◌+◌, ◌<◌, ◌≤◌, Bool, false, List, [], ◌∷◌, ◌++◌, length, take, drop, Option, None, Some, Result, Ok, Err}
use Rattle.std.specs.Str.{chars, encode_utf8_all}
use Rattle.case_table.specs.Rows.{shown}
use Rattle.java_tokens.specs.declared.token.Token.{Token}
use Rattle.java_tokens.specs.declared.token_reader.TokenReader.{TokenReader}
use Rattle.java_tokens.specs.declared.fault.TextFault.{TextFault}
use Rattle.java_tokens.specs.declared.fault.TextFault.TheVariants.{Bad}
use Rattle.java_tokens.specs.declared.chars.Chars.{Chars}
use Rattle.java_tokens.specs.Words.{word_rows, operator_rows}
use Rattle.java_tokens.specs.Table.{bytes_of}
use Rattle.java_tokens.specs.Tokens.{Element, Reads, Lexeme, tokens_from, line_at, returns}
use Rattle.java_tokens.specs.TokensShown.{codes_in, offsets_in, shown_token, AreTokensIn, IsTokenFaultIn}

-- This many characters of a text were read, in this many bytes, and what is left begins in this line. They are whole tokens and separators; these are the tokens, and this is the last doc comment
-- behind them.
pub record IsLexing (all offsets rest : List ℕ) (before width line : ℕ) (after_return : Bool) (doc : Option (List ℕ)) (tokens : List Lexeme) : Type 0 where
  pub within : before ≤ length all
  pub rest_is : chars rest ≡ drop before all
  pub wide : width ≡ bytes_of all before
  pub total : width + length rest ≡ length (encode_utf8_all all)
  pub line_is : line ≡ line_at all before
  pub return_is : after_return ≡ returns false (take before all)
  pub es : List Element
  pub reads : Reads all es (drop before all)
  -- whatever tokens and separators come behind them give their tokens behind these
  pub shown : (more : List Element) → tokens_from all offsets 0 None (es ++ more) ≡ tokens ++ tokens_from all offsets before doc more

-- a reader has read these tokens of a file, and no doc comment behind them
pub record HasRead (read : Chars) (tokens : List Lexeme) (reader : TokenReader) : Type 0 where
  pub file : reader.chars.now ≡ read
  pub reserved : shown reader.words.rows.now ≡ word_rows
  pub signs : shown reader.operators.rows.now ≡ operator_rows
  pub before : ℕ
  pub lexing : IsLexing (codes_in read) (offsets_in read) reader.rest.now before reader.place.width reader.place.line reader.place.after_return None tokens

-- Behind these tokens one more is read, and less is left; or they are all of the file, or no list of its tokens goes on.
abbrev pub ReadsOn : TokenReader → List Lexeme → TokenReader → Result (Option Token) TextFault → Type 0
ReadsOn old tokens new (Ok (Some token)) = HasRead old.chars.now (tokens ++ shown_token token ∷ []) new × (length new.rest.now < length old.rest.now)
ReadsOn old tokens new (Ok None) = AreTokensIn old.chars.now tokens × (new ≡ old)
ReadsOn old tokens new (Err fault) = (place : ℕ) × (fault ≡ Bad place) × IsTokenFaultIn old.chars.now place × (new ≡ old)

-- a reader has read some tokens of its file
abbrev pub HasBegun : TokenReader → Type 0
HasBegun reader = (ts : List Lexeme) × HasRead reader.chars.now ts reader

-- whatever tokens it has read, it reads on behind them
abbrev pub ReadsNext : TokenReader → TokenReader → Result (Option Token) TextFault → Type 0
ReadsNext old new result = (ts : List Lexeme) → HasRead old.chars.now ts old → ReadsOn old ts new result
