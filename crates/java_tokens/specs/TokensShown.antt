-- What characters and tokens that were read show.
use Rattle.std.specs.Prelude.{◌≡◌, ℕ, ◌+◌, ◌≤◌, List, length, map, Option, Some, option_map, if◌then◌else◌, string_bytes, Result, MatchResult, Vec}
use Rattle.std.specs.Borrow.{Bor}
use Rattle.std.specs.Str.{chars}
use Rattle.std.specs.declared.alloc.Global.{Global}
use Rattle.java_tokens.specs.declared.chars.Chars.{Chars}
use Rattle.java_tokens.specs.declared.token.Token.{Token}
use Rattle.java_tokens.specs.declared.fault.TextFault.{TextFault}
use Rattle.java_tokens.specs.declared.fault.TextFault.TheVariants.{Memory}
use Rattle.java_tokens.specs.Characters.{Placed, AreChars, IsCharFault}
use Rattle.java_tokens.specs.CharsShown.{offsets_of, placed_chars, FaultAt}
use Rattle.java_tokens.specs.Table.{bytes_of}
use Rattle.java_tokens.specs.Tokens.{Lexeme, is_doc, AreTokens, IsTokenFault}

-- the characters that were read, and the offset of each
abbrev pub codes_in : Chars → List ℕ
codes_in read = chars (string_bytes read.text)

abbrev pub offsets_in : Chars → List ℕ
offsets_in read = offsets_of (codes_in read) read.shifts.items

-- a character is behind this many bytes, and this many are before it
abbrev pub IsCharAt : Chars → ℕ → ℕ → Type 0
IsCharAt read before width = (before + 1 ≤ length (codes_in read)) × (width ≡ bytes_of (codes_in read) before)

-- the characters with their offsets
abbrev pub placed_in : Chars → List Placed
placed_in read = placed_chars (string_bytes read.text) read.shifts.items

-- reading gives the characters of a file, or the place of its fault
abbrev pub Reads : List ℕ → Result Chars TextFault → Type 0
Reads file result = MatchResult result (λ read. AreChars file (placed_in read)) (FaultAt (IsCharFault file))

-- it gives these characters, or wants memory
abbrev pub ReadsOnly : List Placed → Result Chars TextFault → Type 0
ReadsOnly all result = MatchResult result (λ read. placed_in read ≡ all) (λ e. e ≡ Memory)

-- there is a fault at this place, or memory is wanted
abbrev pub FaultsOnly : {A : Type 0} → ℕ → Result A TextFault → Type 0
FaultsOnly place result = MatchResult result (λ _. ⊥) (FaultAt (λ at. at ≡ place))

-- characters that were read have these tokens
abbrev pub AreTokensIn : Chars → List Lexeme → Type 0
AreTokensIn read tokens = AreTokens (codes_in read) (offsets_in read) tokens

-- this is the offset at which no list of their tokens goes on
abbrev pub IsTokenFaultIn : Chars → ℕ → Type 0
IsTokenFaultIn read place = IsTokenFault (codes_in read) (offsets_in read) place

-- the last doc comment behind a separator
abbrev pub later_doc : List ℕ → Option (List ℕ) → Option (List ℕ)
later_doc text doc = if is_doc (chars text) then Some text else doc

-- a doc comment, where there is one
abbrev pub shown_doc : Option (Bor (List ℕ)) → Option (List ℕ)
shown_doc doc = option_map (λ d. d.now) doc

abbrev pub shown_token : Token → Lexeme
shown_token t =
    record { kind = t.kind; start = t.start; line = t.line; text = t.text.now; doc = shown_doc t.doc }

abbrev pub shown_tokens : List Token → List Lexeme
shown_tokens ts = map shown_token ts

-- what was read has these tokens, or the place of a fault
abbrev pub Lexes : Chars → Result (Vec Token Global) TextFault → Type 0
Lexes read result = MatchResult result (λ found. AreTokensIn read (shown_tokens found.items)) (FaultAt (IsTokenFaultIn read))

-- the tokens are these, or memory is wanted
abbrev pub LexesOnly : List Lexeme → Result (Vec Token Global) TextFault → Type 0
LexesOnly all result = MatchResult result (λ found. shown_tokens found.items ≡ all) (λ e. e ≡ Memory)
