-- The symbols of a list of tokens, and those of a file: one for each token, but a `>>` is two and a `>>>` three (JLS 3.5). Two tokens are of a sort of their own by the token that follows.
use Rattle.std.specs.Prelude.{◌≡◌, ℕ, ◌+◌, ◌==◌, Bool, true, false, List, [], ◌∷◌, ◌++◌, if◌then◌else◌, nat_le, Option, None, Some, Result, MatchResult, Vec}
use Rattle.std.specs.declared.alloc.Global.{Global}
use Rattle.java_tokens.specs.declared.chars.Chars.{Chars}
use Rattle.java_tokens.specs.declared.fault.TextFault.{TextFault}
use Rattle.java_tokens.specs.declared.token.TokenKind.{TokenKind}
use Rattle.java_tokens.specs.declared.token.TokenKind.TheVariants.{Identifier, Reserved, Integer, Floating, Character, Text, TextBlock, Operator, Truth, Null}
use Rattle.java_tokens.specs.Tokens.{Lexeme}
use Rattle.java_tokens.specs.declared.token.Token.{Token}
use Rattle.java_tokens.specs.CharsShown.{FaultAt}
use Rattle.java_tokens.specs.TokensShown.{shown_token, AreTokensIn, IsTokenFaultIn}
use Rattle.decl_grammar.specs.declared.symbol.Symbol.{Symbol}
use Rattle.decl_grammar.specs.Symbols.{identifier, named, integer, floating, character, text, text_block, truth, null, at_interface, word, operator}
use Rattle.decl_grammar.specs.TokenNames as token

-- a sort of which no form has a symbol; no token has a number beyond its table
abbrev pub no_sort : ℕ
no_sort = 255

abbrev pub word_sort : ℕ → ℕ
word_sort n = if nat_le n token.underscore then word n else no_sort

abbrev pub operator_sort : ℕ → ℕ
operator_sort n = if nat_le n token.unsigned_shift_right_equals then operator n else no_sort

-- the sort of a token by itself
abbrev pub sort_of : TokenKind → ℕ
sort_of Identifier = identifier
sort_of (Reserved n) = word_sort n
sort_of Integer = integer
sort_of Floating = floating
sort_of Character = character
sort_of Text = text
sort_of TextBlock = text_block
sort_of (Operator n) = operator_sort n
sort_of Truth = truth
sort_of Null = null

-- the next token is of this sort
abbrev pub is_before : ℕ → List Lexeme → Bool
is_before n [] = false
is_before n (t ∷ ts) = sort_of t.kind == n

-- the sort of a token before others: a name before `=`, and `@` before `interface`, are of a sort of their own
abbrev pub sort_before : ℕ → List Lexeme → ℕ
sort_before n ts =
    if n == identifier then (if is_before (operator token.equals) ts then named else identifier)
    else if n == operator token.at then (if is_before (word token.interface) ts then at_interface else operator token.at)
    else n

abbrev pub symbol_of : ℕ → Bool → Lexeme → Symbol
symbol_of sort further t = record { sort = sort; further = further; start = t.start; line = t.line; text = t.text; doc = t.doc }

-- `>`, behind others of the same token or not
abbrev pub closing : Bool → Lexeme → Symbol
closing further t = symbol_of (operator token.greater_than) further t

-- the symbols of a token of this sort before others
abbrev pub symbols_at : ℕ → Lexeme → List Lexeme → List Symbol
symbols_at n t ts =
    if n == operator token.shift_right then closing false t ∷ closing true t ∷ []
    else if n == operator token.unsigned_shift_right then closing false t ∷ closing true t ∷ closing true t ∷ []
    else symbol_of (sort_before n ts) false t ∷ []

abbrev pub symbols_before : Lexeme → List Lexeme → List Symbol
symbols_before t ts = symbols_at (sort_of t.kind) t ts

abbrev pub symbols_of : List Lexeme → List Symbol
symbols_of [] = []
symbols_of (t ∷ ts) = symbols_before t ts ++ symbols_of ts

-- the next token, where there is one
abbrev pub shown_next : Option Token → List Lexeme
shown_next None = []
shown_next (Some next) = shown_token next ∷ []

-- the symbols of a token before the next one, as code has them
abbrev pub shown_before : Token → Option Token → List Symbol
shown_before here next = symbols_before (shown_token here) (shown_next next)

-- a file has these symbols, or no list of its tokens goes on, or memory is wanted
abbrev pub AreSymbols : Chars → Result (Vec Symbol Global) TextFault → Type 0
AreSymbols read result = MatchResult result (λ found. (ts : List Lexeme) × AreTokensIn read ts × (found.items ≡ symbols_of ts)) (FaultAt (IsTokenFaultIn read))
