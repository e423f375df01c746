-- How the symbols of a file are read part by part, as its tokens are read.
use Rattle.std.specs.Prelude.{◌≡◌, ◌⊎◌, ℕ, ◌≤◌, List, [], ◌∷◌, ◌++◌, length, Option, None, Some, Result, IfOk, MatchResult}
use Rattle.java_tokens.specs.declared.token.Token.{Token}
use Rattle.java_tokens.specs.declared.token_reader.TokenReader.{TokenReader}
use Rattle.java_tokens.specs.declared.chars.Chars.{Chars}
use Rattle.java_tokens.specs.declared.fault.TextFault.{TextFault}
use Rattle.java_tokens.specs.CharsShown.{FaultAt}
use Rattle.java_tokens.specs.Tokens.{Lexeme}
use Rattle.java_tokens.specs.TokensShown.{shown_token, AreTokensIn, IsTokenFaultIn}
use Rattle.java_tokens.specs.TokenReading.{HasRead}
use Rattle.decl_grammar.specs.declared.symbol.Symbol.{Symbol}
use Rattle.decl_grammar.specs.declared.symbol_reader.SymbolReader.{SymbolReader}
use Rattle.decl_grammar.specs.SymbolList.{symbols_of}

-- the symbols of the tokens before the last one that was read
pub record IsGathering (read : Chars) (reader : TokenReader) (last : Token) (found : List Symbol) : Type 0 where
  pub done : List Lexeme
  pub has_read : HasRead read (done ++ shown_token last ∷ []) reader
  -- whatever tokens come behind the last one, its symbols and theirs are behind these
  pub shown : (more : List Lexeme) → symbols_of (done ++ shown_token last ∷ more) ≡ found ++ symbols_of (shown_token last ∷ more)

-- the same where there is a last one, and of all tokens of the file where there is none
abbrev pub Gathers : Chars → TokenReader → Option Token → List Symbol → Type 0
Gathers read reader None found = (ts : List Lexeme) × AreTokensIn read ts × (found ≡ symbols_of ts)
Gathers read reader (Some last) found = IsGathering read reader last found

-- a reader has the first symbols of a file, or all of them
abbrev pub HasGathered : Chars → SymbolReader → Type 0
HasGathered read reader = Gathers read reader.tokens reader.last reader.symbols.items

-- it has those of some file
abbrev pub IsReading : SymbolReader → Type 0
IsReading reader = (read : Chars) × HasGathered read reader

-- a reader of a file, or a fault of its tokens
abbrev pub Reads : Chars → Result SymbolReader TextFault → Type 0
Reads read result = MatchResult result (HasGathered read) (FaultAt (IsTokenFaultIn read))

-- whatever file it has symbols of, it goes on in that
abbrev pub ReadsFurther : SymbolReader → Result SymbolReader TextFault → Type 0
ReadsFurther old result = (read : Chars) → HasGathered read old → Reads read result

-- all symbols are these and those behind them, of which there may be none
abbrev pub AreFirstOf : List Symbol → List Symbol → Type 0
AreFirstOf found all = (behind : List Symbol) × (all ≡ found ++ behind)

-- the symbols that a reader had are the first ones of those that it then has
abbrev pub KeepsSymbols : SymbolReader → Result SymbolReader TextFault → Type 0
KeepsSymbols old result = IfOk result (λ new. AreFirstOf old.symbols.items new.symbols.items)

-- it then has at least this many symbols, or all symbols of its file
abbrev pub HasEnough : ℕ → Result SymbolReader TextFault → Type 0
HasEnough count result = IfOk result (λ new. (count ≤ length new.symbols.items) ⊎ (new.last ≡ None))

-- the symbols of a file begin with these
abbrev pub BeginWith : Chars → List Symbol → Type 0
BeginWith read found = (ts : List Lexeme) × (behind : List Symbol) × AreTokensIn read ts × (symbols_of ts ≡ found ++ behind)

-- whatever file it has symbols of, these are the first ones of it, or its tokens have a fault
abbrev pub PassesRest : SymbolReader → Result Unit TextFault → Type 0
PassesRest old result = (read : Chars) → HasGathered read old → MatchResult result (λ u. BeginWith read old.symbols.items) (FaultAt (IsTokenFaultIn read))
